-- A text is cleaned byte by byte.
use Rattle.std.proofs.Common.{◌≡◌, ℕ, suc, zero, ◌+◌, ◌<◌, ◌≤◌, List, [], ◌∷◌, length, drop, get_or, Option, Some, None, refl, arith}
use Rattle.std.specs.Borrow.{Bor}
use Rattle.std.specs.Prelude.{MatchOption}
use Rattle.std.specs.List.{HoldsAt}
use Rattle.std.specs.Option.{option_copied}
use Rattle.litmus_tokens.specs.declared.cleaning.Part.{Part}
use Rattle.litmus_tokens.specs.declared.cleaning.Part.TheVariants.{Text}
use Rattle.litmus_tokens.specs.Cleaning.{next_byte, turned, cleaned_from, cleaned_text}

pub length-cleaned_from : (part : Part) (text : List ℕ) → length (cleaned_from part text) ≡ length text
unfolding cleaned_from
length-cleaned_from part [] = refl
length-cleaned_from part (c ∷ rest) = let same = length-cleaned_from (turned part c (next_byte rest)).1 rest in omega arith

pub length-cleaned_text : (text : List ℕ) → length (cleaned_text text) ≡ length text
unfolding cleaned_text
length-cleaned_text text = length-cleaned_from Text text

-- one byte more
pub one_turn : (part : Part) (text : List ℕ) (i : ℕ) → i < length text
    → cleaned_from part (drop i text) ≡ (turned part (get_or text i 0) (next_byte (drop (i + 1) text))).0
    ∷ cleaned_from (turned part (get_or text i 0) (next_byte (drop (i + 1) text))).1 (drop (i + 1) text)
unfolding cleaned_from
one_turn part [] i lt = absurd (omega arith)
one_turn part (c ∷ rest) zero lt = refl
one_turn part (c ∷ rest) (suc i) lt = let e : suc i + 1 ≡ suc (i + 1) = omega arith in rw e (one_turn part rest i (omega arith))

-- ---- the next byte

first-found : (text : List ℕ) (i : ℕ) → i < length text → next_byte (drop i text) ≡ Some (get_or text i 0)
first-found [] i lt = absurd (omega arith)
first-found (c ∷ rest) zero lt = refl
first-found (c ∷ rest) (suc i) lt = first-found rest i (omega arith)

first_missing : (text : List ℕ) (i : ℕ) → length text ≤ i → next_byte (drop i text) ≡ None
first_missing [] zero le = refl
first_missing [] (suc i) le = refl
first_missing (c ∷ rest) zero le = absurd (omega arith)
first_missing (c ∷ rest) (suc i) le = first_missing rest i (omega arith)

pub is_first : (text : List ℕ) (i : ℕ) (got : Option (Bor ℕ))
    → MatchOption got (length text ≤ i) (λ x. (i < length text) × HoldsAt (λ y. x.now ≡ y) text i)
    → option_copied got ≡ next_byte (drop i text)
is_first text i got h = grind (arith, first_missing, first-found)
