-- Words among those that were numbered, each kept as bytes.
use Rattle.std.proofs.Common.{◌≡◌, ℕ, Bool, true, false, List, [], ◌∷◌, ◌++◌, Option, None, Some, sym, ◌∙◌, ap, subst}
use Rattle.std.specs.Global.{Vec}
use Rattle.std.specs.Prelude.{All, map, position, if◌then◌else◌, Result, Ok, Err, IfOk, IfSome, OnErr, is_some}
use Rattle.std.specs.List.{Contains, slice_get, list_any}
use Rattle.std.proofs.lemmas.List.Elements.{All-push}
use Rattle.std.proofs.lemmas.Option.{slice_get-get_or}
use Rattle.states.proofs.NumberLaws.{has_items, words-absent, words-there}
use Rattle.surveys.specs.inner.Compact.{bytes_of, position_words, words_in, IsCompact}

-- no other bytes are those of the words
pub own_bytes : (keys : List (Vec ℕ)) (words : List ℕ) → All IsCompact keys → All (λ key. position_words key ≡ words → bytes_of words ≡ key.items) keys
own_bytes keys words all = λ i key within is. ap bytes_of (sym is) ∙ all i key within

one_more : (keys : List (Vec ℕ)) (key : Vec ℕ) (t : Bool) → All IsCompact keys → IsCompact key → All IsCompact (if t then keys else keys ++ key ∷ [])
one_more keys key true all is = all
one_more keys key false all is = All-push IsCompact keys key all is

-- with a key of words' bytes all stay compact, whether or not there was memory for it
pub stay_compact : {E : Type 0} (r : Result Bool E) (keys new : List (Vec ℕ)) (key : Vec ℕ) (t : Bool) → All IsCompact keys → IsCompact key
    → IfOk r (λ _. new ≡ (if t then keys else keys ++ key ∷ [])) → OnErr r (new ≡ keys) → All IsCompact new
stay_compact (Ok added) keys new key t all is inserted err = subst (λ (ks : List (Vec ℕ)). All IsCompact ks) (sym inserted) (one_more keys key t all is)
stay_compact (Err e) keys new key t all is inserted err = subst (λ (ks : List (Vec ℕ)). All IsCompact ks) (sym err) all

-- ---- whether words are numbered

pub words_found : (r : Option ℕ) (keys : List (Vec ℕ)) (d : Vec ℕ) (bytes words : List ℕ) → r ≡ position (has_items bytes) keys → words_in bytes ≡ words
    → IfSome r (λ number. slice_get (map position_words keys) number ≡ Some words)
words_found None keys d bytes words is back = tt
words_found (Some number) keys d bytes words is back =
    words-there position_words keys d bytes words number is (λ key same. ap words_in (sym same) ∙ back)

pub words_unknown : (r : Option ℕ) (keys : List (Vec ℕ)) (d : Vec ℕ) (words : List ℕ) → All IsCompact keys
    → is_some r ≡ list_any (has_items (bytes_of words)) keys
    → r ≡ None → Contains (map position_words keys) words → ⊥
words_unknown r keys d words all found none contains =
    words-absent position_words keys d (bytes_of words) words contains.0 (own_bytes keys words all) (ap is_some (sym none) ∙ found)
    (slice_get-get_or (map position_words keys) contains.0 words contains.1 ∙ ap (λ (ws : List ℕ). Some ws) contains.2)
