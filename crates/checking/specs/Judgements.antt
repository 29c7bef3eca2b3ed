-- How a text is judged: whether it is the record of a run of the test, and how the run ends.
use Rattle.std.specs.Prelude.{ℕ, ◌≡◌, List, [], ◌∷◌, map, Result, Err}
use Rattle.litmus.specs.LitmusTests.{LitmusTest, left_sides}
use Rattle.litmus.specs.Verdicts.{IsVerdict, final_value}
use Rattle.litmus.specs.declared.verdict.Verdict.{Verdict}
use Rattle.litmus.specs.declared.verdict.Verdict.TheVariants.{Holds, Fails, Unfinished}
use Rattle.step_machine.specs.History.{History}
use Rattle.step_machine.specs.declared.events.Outcome.{Outcome}
use Rattle.recorder.specs.Records.{Step, IsRecordOf, record_at}
use Rattle.recorder.specs.Replaying.{IsRunRecord, DiffersAt}
use Rattle.engine_support.specs.declared.fault.Refusal.{Refusal}
use Rattle.engine_support.specs.Engines.{AcceptedInput, decoded}
use Rattle.engine_support.specs.Inputs.{refused_schedule}
use Rattle.checking.specs.EventLines.{line_of_event}

-- an event of a record, counted from 0, and its line; the step that the record has there, and the run's outcome
pub record Difference : Type 0 where
  pub event : ℕ
  pub line : ℕ
  pub step : Step
  pub found : Outcome

pub data Judged : Type 0 where
  -- a record of a run that finished, with the last values of the condition's observed locations
  finished : List ℕ → Judged
  unfinished : Judged
  -- a record whose run has another outcome of this event, and of no event before it
  differing : Difference → Judged
  no_record : Refusal → Judged

-- a run with this verdict of the test
abbrev pub judged_run : Verdict → (values : List ℕ) → Judged
judged_run Holds values = finished values
judged_run Fails values = finished values
judged_run Unfinished values = unfinished

-- the steps of a text, or its refusal
unfoldable pub record_of : List ℕ → Result (List Step) Refusal
record_of text = refused_schedule (record_at text)

-- the judgement of a run of the test that ended with this history
pub record EndsAs (M : ℕ) (test : LitmusTest) (answer : Judged) (history : History) : Type 0 where
  pub verdict : Verdict
  pub judged : IsVerdict M test history verdict
  pub answer_is : answer ≡ judged_run verdict (map (final_value M history) (left_sides test.condition))

-- the steps are the record of a run of the test, whose judgement is this
pub record IsRunJudged (B M : ℕ) (test : LitmusTest) (steps : List Step) (answer : Judged) : Type 0 where
  pub history : History
  pub ran : IsRunRecord B M test.opening steps history
  pub ends : EndsAs M test answer history

-- the first event whose outcome isn't the run's
pub record IsDifference (B M : ℕ) (test : LitmusTest) (text : List ℕ) (steps : List Step) (d : Difference) : Type 0 where
  pub differs : DiffersAt B M test.opening steps d.event
  pub step : differs.step ≡ d.step
  pub found : differs.outcome ≡ d.found
  pub line : d.line ≡ line_of_event text d.event

-- the judgement of a record of these steps
pub data IsRecordJudged (B M : ℕ) (test : LitmusTest) (text : List ℕ) (steps : List Step) : Judged → Type 0 where
  of_run : (answer : Judged) → IsRunJudged B M test steps answer → IsRecordJudged B M test text steps answer
  of_difference : (d : Difference) → IsDifference B M test text steps d → IsRecordJudged B M test text steps (differing d)

-- The judgement of a text: why it is no record, or what its steps show, over store buffers of B stores and a memory of
-- M words.
pub data IsTextJudged (B M : ℕ) (test : LitmusTest) (text : List ℕ) : Judged → Type 0 where
  none : (refusal : Refusal) → decoded record_of text ≡ Err refusal → IsTextJudged B M test text (no_record refusal)
  record_is : (steps : List Step) (answer : Judged) → AcceptedInput IsRecordOf text steps
      → IsRecordJudged B M test text steps answer → IsTextJudged B M test text answer

-- the same of each text, in order
abbrev pub AreTextsJudged : (B M : ℕ) → LitmusTest → List (List ℕ) → List Judged → Type 0
AreTextsJudged B M test [] answers = answers ≡ []
AreTextsJudged B M test (text ∷ texts) answers = (first : Judged) × (others : List Judged) × (answers ≡ first ∷ others)
    × IsTextJudged B M test text first × AreTextsJudged B M test texts others
