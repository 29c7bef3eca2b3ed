-- The places that a test asks for, as texts. The table of outcomes: how often each came, and what names the
-- first run that gave it.
use Rattle.std.specs.Prelude.{ℕ, ◌/◌, List, [], ◌++◌, slice_index_or, codes, ◌↔◌, IsTrue, Bool, ◌∷◌, zip, Contains}
use Rattle.std.specs.Fmt.{decimal}
use Rattle.litmus.specs.declared.symbols.Place.{Place}
use Rattle.litmus.specs.declared.symbols.Place.TheVariants as place
use Rattle.std.specs.List.{flat_map, list_any}
use Rattle.std.specs.List.Sorted.{IsStrictlySortedBy}
use Rattle.std.specs.Ordering.{nat_cmp}
use Rattle.std.specs.Cmp.Lexicographic.{slice_cmp}
use Rattle.litmus.specs.LitmusTests.{LitmusTest, left_sides}

-- a register as `H:xN`, a word as the name of its location
abbrev pub place_text : (names : List (List ℕ)) → Place → List ℕ
place_text names (place.Register h n) = decimal h ++ codes ":x" ++ decimal n
place_text names (place.Word a) = slice_index_or names (a / 4) []

-- ` LEFT=VALUE`, a place and its value
abbrev pub value_text : (names : List (List ℕ)) → Place × ℕ → List ℕ
value_text names side = codes " " ++ place_text names side.0 ++ codes "=" ++ decimal side.1

-- a line: how many runs, the values of the observed locations, and what names the first run
abbrev pub line_of : LitmusTest → (outcome : List ℕ) → (count : ℕ) → (end : List ℕ) → List ℕ
line_of test outcome count end = decimal count ++ flat_map (value_text test.names) (zip (left_sides test.condition) outcome) ++ codes " ;" ++ end ++ 10 ∷ []

abbrev pub unfinished_line : (count : ℕ) → List ℕ
unfinished_line count = codes "unfinished " ++ decimal count ++ 10 ∷ []

-- These are the outcomes of some runs, each of which gave one outcome or none: each once, ascending as lists
-- of numbers.
pub record AreOutcomes {X : Type 0} (gave : (outcome : List ℕ) → X → Bool) (runs : List X) (outcomes : List (List ℕ)) : Type 0 where
  pub ascending : IsStrictlySortedBy (slice_cmp nat_cmp) outcomes
  pub all : (outcome : List ℕ) → Contains outcomes outcome ↔ IsTrue (list_any (gave outcome) runs)
