-- A text cut at the first byte that parts it, the room that its pieces take, and its lines.
use Rattle.std.proofs.Common.{◌≡◌, ℕ, ◌+◌, ◌<◌, ◌≤◌, ◌==◌, Bool, List, [], ◌∷◌, length, take, drop, Some, None, refl, inl, inr, arith}
use Rattle.std.specs.Prelude.{position}
use Rattle.std.specs.List.{slice_split, onto_first, position_or_len}
use Rattle.std.specs.Str.Lines.{lines, lines_of_parts, strip_carriage_return}
use Rattle.std.proofs.Math.Dec.{eqb-suc-zero}
use Rattle.std.proofs.lemmas.Bool.{le-ltb, lt-ltb, cases_Bool}
use Rattle.std.proofs.lemmas.List.Splits.{slice_split_first, length-slice_split}
use Rattle.texts.specs.Pieces.{span}

-- where a place is found, it is the length of the front that fails the test
pub position_is : (p : ℕ → Bool) (xs : List ℕ) (i : ℕ) → position p xs ≡ Some i → (position_or_len p xs < length xs) × (position_or_len p xs ≡ i)
position_is p xs i e = grind (arith, lt-ltb, le-ltb)

pub position_past : (p : ℕ → Bool) (xs : List ℕ) → position p xs ≡ None → length xs ≤ position_or_len p xs
position_past p xs e = grind (arith, lt-ltb)

-- the first piece ends before the first byte that passes
pub slice_split_found : (p : ℕ → Bool) (xs : List ℕ) (i : ℕ) → position p xs ≡ Some i → slice_split p xs ≡ take i xs ∷ slice_split p (drop (i + 1) xs)
slice_split_found p xs i e = grind (arith, position_is, slice_split_first)

-- and is the whole text where none passes
pub slice_split_whole : (p : ℕ → Bool) (xs : List ℕ) → position p xs ≡ None → slice_split p xs ≡ xs ∷ []
slice_split_whole p xs e = whole xs (position_past p xs e)
  where
    whole : (ys : List ℕ) → length ys ≤ position_or_len p ys → slice_split p ys ≡ ys ∷ []
    whole [] le = refl
    whole (y ∷ ys) le =
        elim (cases_Bool (p y)) [
          | inl passes ↦ (let long : length (y ∷ ys) ≤ 0 = rw passes at le in absurd (omega arith))
          | inr fails ↦ (let more : length (y ∷ ys) ≤ 1 + position_or_len p ys = rw fails at le in rw (fails, whole ys (omega arith)) refl)
        ]

span-onto_first : (x : ℕ) (parts : List (List ℕ)) → 0 < span parts → span (onto_first x parts) ≡ span parts + 1
span-onto_first x parts some = grind arith

-- the pieces of a text take its bytes, each with one separator, and the last one a separator too many
pub span-slice_split : (p : ℕ → Bool) (xs : List ℕ) → span (slice_split p xs) ≡ length xs + 1
span-slice_split p [] = refl
span-slice_split p (x ∷ xs) = grind (arith, span-onto_first, span-slice_split p xs)

-- ---- lines

-- a part before another one is a line
pub lines_of_parts-cons : (part : List ℕ) (parts : List (List ℕ)) → 0 < length parts
    → lines_of_parts (part ∷ parts) ≡ strip_carriage_return part ∷ lines_of_parts parts
lines_of_parts-cons part parts some = grind arith

-- the first line ends before the first LF, and loses the CR before it
pub lines_found : (text : List ℕ) (i : ℕ) → position (λ byte. byte == 10) text ≡ Some i
    → lines text ≡ strip_carriage_return (take i text) ∷ lines (drop (i + 1) text)
lines_found text i e = grind (arith, slice_split_found, lines_of_parts-cons, length-slice_split)

-- and is all that is left where there is none
pub lines_whole : (text : List ℕ) → position (λ byte. byte == 10) text ≡ None → 0 < length text → lines text ≡ text ∷ []
lines_whole text e some = grind (arith, slice_split_whole, eqb-suc-zero)
