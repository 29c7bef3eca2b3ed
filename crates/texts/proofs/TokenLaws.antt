-- A line and its tokens.
use Rattle.std.proofs.Common.{◌≡◌, ℕ, ◌<◌, Bool, true, false, ltb, List, [], ◌∷◌, length, Option, Some, None, refl, arith}
use Rattle.std.specs.Prelude.{unwrap_or}
use Rattle.std.specs.List.{filter, slice_split}
use Rattle.std.proofs.lemmas.Bool.{lt-ltb}
use Rattle.texts.specs.{is_blank, before, after, without_front, tokens, first_cut}
use Rattle.texts.proofs.CuttingLaws.{split_after, split_cut}

abbrev pub is_word : List ℕ → Bool
is_word piece = ltb 0 (length piece)

pub filter_kept : (piece : List ℕ) (pieces : List (List ℕ)) → 0 < length piece → filter is_word (piece ∷ pieces) ≡ piece ∷ filter is_word pieces
filter_kept piece pieces some = rw (lt-ltb 0 (length piece) some) refl

after_words : (rest : Option (List ℕ)) → filter is_word (split_after is_blank rest) ≡ filter is_word (slice_split is_blank (unwrap_or rest []))
after_words rest = grind arith

-- a text that begins with no blank is its first token, and the tokens after it
tokens-solid : (byte : ℕ) (text : List ℕ) → is_blank byte ≡ false
    → tokens (byte ∷ text) ≡ before is_blank (byte ∷ text) ∷ tokens (unwrap_or (after is_blank (byte ∷ text)) [])
unfolding tokens
tokens-solid byte text solid = grind (arith, split_cut, filter_kept, split_after, after_words)

tokens-blank : (byte : ℕ) (line : List ℕ) → is_blank byte ≡ true → tokens (byte ∷ line) ≡ tokens line
unfolding tokens
tokens-blank byte line blank = rw blank refl

abbrev cut_of : List ℕ → List ℕ → Option (List ℕ × List ℕ)
cut_of token rest = Some (token, rest)

cut_is : (a b c d : List ℕ) → cut_of a b ≡ cut_of c d → (a ≡ c) × (b ≡ d)
cut_is a b c d e = grind arith

pub tokens-cut : (line token rest : List ℕ) → first_cut line ≡ Some (token, rest) → tokens line ≡ token ∷ tokens rest
unfolding first_cut
tokens-cut [] token rest e = absurd cc
tokens-cut (byte ∷ line) token rest e = grind (arith, tokens-blank, cut_is, tokens-solid, tokens-cut line token rest)

pub tokens_uncut : (line : List ℕ) → first_cut line ≡ None → tokens line ≡ []
unfolding first_cut tokens
tokens_uncut [] e = refl
tokens_uncut (byte ∷ line) e = grind (arith, tokens-blank, tokens_uncut line)

-- what the reader of a first token cut
pub first_is : (line kept token : List ℕ) (rest : Option (List ℕ)) → kept ≡ without_front line → 0 < length kept
    → token ≡ before is_blank kept → rest ≡ after is_blank kept → first_cut line ≡ Some (token, unwrap_or rest [])
unfolding first_cut
first_is line kept token rest is some first following = grind arith

pub first_none : (line kept : List ℕ) → kept ≡ without_front line → length kept ≡ 0 → first_cut line ≡ None
unfolding first_cut
first_none line kept is none = grind arith

-- a line that has tokens has a first one
pub tokens-first : (line name : List ℕ) (others : List (List ℕ)) → tokens line ≡ name ∷ others
    → (rest : List ℕ) × (first_cut line ≡ Some (name, rest)) × (tokens rest ≡ others)
tokens-first line name others e = grind (arith, tokens_uncut, tokens-cut)

pub tokens_none : (line : List ℕ) → tokens line ≡ [] → first_cut line ≡ None
tokens_none line e = grind (arith, tokens-cut)
