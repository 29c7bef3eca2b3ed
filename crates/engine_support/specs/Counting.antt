-- What is counted of some runs' outcomes, and the lines that are made of it.
use Rattle.std.specs.Prelude.{ℕ, ◌≡◌, ◌+◌, ◌↔◌, if◌then◌else◌, IsTrue, Bool, List, [], length, count_by, is_some, Contains, Option, Some, None, option_map}
use Rattle.std.specs.List.{flat_map, list_any}
use Rattle.std.specs.List.Sorted.{IsStrictlySortedBy}
use Rattle.std.specs.Ordering.{is_eq, nat_cmp}
use Rattle.std.specs.Cmp.Lexicographic.{slice_cmp}
use Rattle.std.specs.Str.{bytes_eq as are_equal}
use Rattle.std.specs.Map.{lookup}
use Rattle.std.specs.Global.{Vec}
use Rattle.litmus.specs.LitmusTests.{LitmusTest}
use Rattle.engine_support.specs.declared.outcomes.Row.{Row}
use Rattle.engine_support.specs.declared.outcomes.Outcomes.{Outcomes}
use Rattle.engine_support.specs.Outcomes.{line_of}

-- what is counted of an outcome: how many runs gave it, and what its row ends with
abbrev pub Counted : Type 0
Counted = ℕ × List ℕ

abbrev pub counted_by : {F : Type 0} → (name : F → List ℕ) → Row F → Counted
counted_by name row = (row.count, name row.first)

abbrev pub is_key : (outcome : List ℕ) → Vec ℕ → Bool
is_key outcome key = is_eq (slice_cmp nat_cmp outcome key.items)

-- what some rows tell of an outcome, if one of them is its row
unfoldable pub counted_of : {F : Type 0} → (name : F → List ℕ) → List (Vec ℕ × Row F) → (outcome : List ℕ) → Option Counted
counted_of name rows outcome = option_map (counted_by name) (lookup (is_key outcome) rows)

abbrev pub counted : {F : Type 0} → (name : F → List ℕ) → Outcomes F → (outcome : List ℕ) → Option Counted
counted name outcomes = counted_of name outcomes.rows.entries

abbrev pub rows_in : {F : Type 0} → Outcomes F → ℕ
rows_in outcomes = length outcomes.rows.entries

-- what is counted of runs and then of later ones: the counts together, and the end of the first that has one
abbrev pub counted_both : Option Counted → Option Counted → Option Counted
counted_both None later = later
counted_both (Some seen) None = Some seen
counted_both (Some seen) (Some later) = Some (seen.0 + later.0, seen.1)

-- later runs with this outcome were counted, and none with another
abbrev pub Counts : (outcome : List ℕ) → (later : Counted) → (old new : (outcome : List ℕ) → Option Counted) → Type 0
Counts outcome later old new = (other : List ℕ) → new other ≡ (if are_equal other outcome then counted_both (old other) (Some later) else old other)

-- What is counted of some runs, where `gave` says which outcome a run gave, and `end_of` what the row of an
-- outcome ends with.
unfoldable pub seen_of : {X : Type 0} → (gave : (outcome : List ℕ) → X → Bool) → (end_of : (outcome : List ℕ) → List X → List ℕ) → (runs : List X)
    → (outcome : List ℕ) → Option Counted
seen_of gave end_of runs outcome = if list_any (gave outcome) runs then Some (count_by (gave outcome) runs, end_of outcome runs) else None

-- ---- the lines

abbrev pub counted_line : LitmusTest → (outcome : List ℕ) → Option Counted → List ℕ
counted_line test outcome None = []
counted_line test outcome (Some seen) = line_of test outcome seen.0 seen.1

-- a line for each outcome of which something is counted, ascending as lists of numbers
pub record AreCountedLines (test : LitmusTest) (counts_of : (outcome : List ℕ) → Option Counted) (text : List ℕ) : Type 0 where
  pub outcomes : List (List ℕ)
  pub ascending : IsStrictlySortedBy (slice_cmp nat_cmp) outcomes
  pub all : (outcome : List ℕ) → Contains outcomes outcome ↔ IsTrue (is_some (counts_of outcome))
  pub text_is : text ≡ flat_map (λ outcome. counted_line test outcome (counts_of outcome)) outcomes
