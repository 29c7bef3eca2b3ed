-- The commands `run`, `replay` and `move`.
use Rattle.std.specs.Prelude.{ℕ, ◌≡◌, List, [], ◌∷◌, ◌++◌, Option, Result, codes, Ok, Err}
use Rattle.step_machine.specs.History.{History}
use Rattle.litmus.specs.LitmusTests.{LitmusTest}
use Rattle.litmus.specs.Verdicts.{IsVerdict}
use Rattle.litmus.specs.declared.verdict.Verdict.{Verdict}
use Rattle.litmus.specs.declared.verdict.Verdict.TheVariants.{Holds, Fails, Unfinished}
use Rattle.engine_support.specs.declared.fault.Refusal.{Refusal}
use Rattle.engine_support.specs.StateText.{shown}
use Rattle.engine_support.specs.Histories.{ByRun, BySchedule}
use Rattle.recorder.specs.Records.{Step, IsRecordOf, record_text}
use Rattle.recorder.specs.Versions.{ScheduleValue}
use Rattle.engine_support.specs.Engines.{Output}
use Rattle.engine_support.specs.Runs.{Records}
use Rattle.std.specs.List.{flat_map}
use Rattle.recorder.specs.Outcomes.{entry_line}

abbrev pub verdict_line : Verdict → List ℕ
verdict_line Holds = codes "Holds" ++ 10 ∷ []
verdict_line Fails = codes "Fails" ++ 10 ∷ []
verdict_line Unfinished = codes "Unfinished" ++ 10 ∷ []

-- the state text of a test's history over a memory of M words, and the verdict on it
pub record IsJudged (M : ℕ) (test : LitmusTest) (history : History) (answer : List ℕ × Verdict) : Type 0 where
  pub verdict : IsVerdict M test history answer.1
  pub is_shown : answer.0 ≡ shown M history ++ verdict_line answer.1

-- What answers a litmus text and a schedule of either version. A record is refused at the first event whose
-- outcome isn't the run's.
abbrev pub IsRunAnswer : (B M : ℕ) → (file schedule : Option (List ℕ)) → Result (List ℕ × Verdict) Refusal → Type 0
IsRunAnswer B M = ByRun B M (IsJudged M)

-- ---- the command `move`: a schedule of either version as a text of version 2, with each event's outcome in the run

-- The one text of the record of the schedule's run from the test's opening, which is read as this record again;
-- a record that differs has none.
abbrev pub IsMoved : (B M : ℕ) → LitmusTest → ScheduleValue → Result Output Refusal → Type 0
IsMoved B M test parsed (Ok answer) = (steps : List Step) × Records B M test.opening parsed (Ok steps)
    × (answer.0 ≡ record_text steps) × IsRecordOf answer.0 steps
IsMoved B M test parsed (Err refusal) = Records B M test.opening parsed (Err refusal)

-- What answers a litmus text and a schedule of either version. A record is refused at the first event whose
-- outcome isn't the run's.
abbrev pub IsMoveAnswer : (B M : ℕ) → (file schedule : Option (List ℕ)) → Result Output Refusal → Type 0
IsMoveAnswer B M = BySchedule (IsMoved B M)

-- ---- the command `replay`: what was done in a test's run, an entry a line

-- the lines of a history's entries
abbrev pub IsReplay : LitmusTest → History → (answer : Output) → Type 0
IsReplay test history answer = answer.0 ≡ flat_map entry_line history.entries

-- What answers a litmus text and a schedule of either version. A record is refused at the first event whose
-- outcome isn't the run's.
abbrev pub IsReplayAnswer : (B M : ℕ) → (file schedule : Option (List ℕ)) → Result Output Refusal → Type 0
IsReplayAnswer B M = ByRun B M IsReplay
