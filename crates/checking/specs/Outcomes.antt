-- The table of outcomes after the last line: how often each came, and which record showed it first.
use Rattle.std.specs.Prelude.{ℕ, ◌≡◌, Bool, true, false, List, [], ◌∷◌, ◌++◌, count_by, unwrap_or, codes}
use Rattle.std.specs.List.{flat_map, position_from}
use Rattle.std.specs.Str.{bytes_eq as are_equal}
use Rattle.std.specs.Fmt.{decimal}
use Rattle.litmus.specs.LitmusTests.{LitmusTest}
use Rattle.engine_support.specs.Outcomes.{AreOutcomes, line_of, unfinished_line}
use Rattle.checking.specs.Judgements.{Judged}
use Rattle.checking.specs.Judgements.Judged.{finished, unfinished, differing, no_record}

-- whether a run finished with this outcome, the list of the observed locations' values
abbrev pub finished_with : (outcome : List ℕ) → Judged → Bool
finished_with outcome (finished values) = are_equal outcome values
finished_with outcome other = false

abbrev pub is_unfinished : Judged → Bool
is_unfinished unfinished = true
is_unfinished other = false

-- a text that is no record, or one of no run
abbrev pub is_refused : Judged → Bool
is_refused (differing d) = true
is_refused (no_record refusal) = true
is_refused other = false

-- the number of the first record whose run gave the outcome, which there is for every outcome
abbrev pub first_with : (outcome : List ℕ) → List Judged → ℕ
first_with outcome answers = unwrap_or (position_from (finished_with outcome) 1 answers) 0

-- what a row ends with: the number of the first record
abbrev pub record_end : (number : ℕ) → List ℕ
record_end number = codes " record " ++ decimal number

abbrev pub first_record : (outcome : List ℕ) → List Judged → List ℕ
first_record outcome answers = record_end (first_with outcome answers)

-- the line of an outcome, with how many runs gave it and the number of the first record whose run did
abbrev pub accepted_row : LitmusTest → List Judged → (outcome : List ℕ) → List ℕ
accepted_row test answers outcome = line_of test outcome (count_by (finished_with outcome) answers) (first_record outcome answers)

abbrev pub refused_line : (count : ℕ) → List ℕ
refused_line count = codes "refused " ++ decimal count ++ 10 ∷ []

-- the table: a row for each outcome, and then how many runs did not finish and how many texts were refused
pub record IsOutcomeTable (test : LitmusTest) (answers : List Judged) (text : List ℕ) : Type 0 where
  pub outcomes : List (List ℕ)
  pub shown : AreOutcomes finished_with answers outcomes
  pub is : text ≡ flat_map (accepted_row test answers) outcomes ++ unfinished_line (count_by is_unfinished answers)
      ++ refused_line (count_by is_refused answers)
