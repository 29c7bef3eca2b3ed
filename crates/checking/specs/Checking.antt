-- The command `check`: what is written of the records of an input.
use Rattle.std.specs.Prelude.{ℕ, ◌≡◌, ◌==◌, Bool, List, ◌++◌, count_by, Option, None, Some, IsOkAnd, Result}
use Rattle.litmus.specs.LitmusTests.{LitmusTest}
use Rattle.engine_support.specs.declared.fault.Refusal.{Refusal}
use Rattle.engine_support.specs.Inputs.{After, tests, whole_lines}
use Rattle.checking.specs.RecordTexts.{texts_in}
use Rattle.checking.specs.Judgements.{Judged, AreTextsJudged}
use Rattle.checking.specs.Reports.{judgement_lines}
use Rattle.checking.specs.Outcomes.{IsOutcomeTable, is_refused}

-- What is written of these lines: a line for each text in them, and then the table. The value beside it is
-- whether none was refused.
pub record IsChecked (B M : ℕ) (lines : List (List ℕ)) (test : LitmusTest) (answer : List ℕ × Bool) : Type 0 where
  pub answers : List Judged
  pub are : AreTextsJudged B M test (texts_in lines) answers
  pub table : List ℕ
  pub tabled : IsOutcomeTable test answers table
  pub text : answer.0 ≡ judgement_lines 1 answers ++ table
  pub good : answer.1 ≡ (count_by is_refused answers == 0)

-- what is written of the first texts in these lines, each as soon as it was read
pub record IsFront (B M : ℕ) (lines : List (List ℕ)) (test : LitmusTest) (out : List ℕ) : Type 0 where
  pub done : List (List ℕ)
  pub rest : List (List ℕ)
  pub texts : texts_in lines ≡ done ++ rest
  pub answers : List Judged
  pub are : AreTextsJudged B M test done answers
  pub text : out ≡ judgement_lines 1 answers

-- this holds of the lines that a reader gives: those of its bytes where these are known, or else some
abbrev pub OfLines : (input : Option (List ℕ)) → (List (List ℕ) → Type 0) → Type 0
OfLines None Holds = (lines : List (List ℕ)) × Holds lines
OfLines (Some bytes) Holds = Holds (whole_lines bytes)

-- What answers a test and the records of an input. The test is judged first.
abbrev pub IsCheckAnswer : (B M : ℕ) → (input file : Option (List ℕ)) → Result (List ℕ × Bool) Refusal → Type 0
IsCheckAnswer B M input file = After tests file (λ test given. IsOkAnd given (λ answer. OfLines input (λ lines. IsChecked B M lines test answer)))

-- What was written where the command came to no end: the lines of the first texts, for a test that is read.
abbrev pub IsCheckFront : (B M : ℕ) → (input file : Option (List ℕ)) → Result (List ℕ) Refusal → Type 0
IsCheckFront B M input file = After tests file (λ test given. IsOkAnd given (λ out. OfLines input (λ lines. IsFront B M lines test out)))
