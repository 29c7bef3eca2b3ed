-- What answers a litmus text and a schedule of either version: what must hold of both, and what of their history.
use Rattle.std.specs.Prelude.{ℕ, List, Option, IsOkAnd, Result, Ok, Err}
use Rattle.step_machine.specs.History.{History}
use Rattle.step_machine.specs.declared.events.Event.{Event}
use Rattle.litmus.specs.LitmusTests.{LitmusTest}
use Rattle.recorder.specs.Versions.{ScheduleValue, events_of_schedule}
use Rattle.engine_support.specs.declared.fault.Refusal.{Refusal}
use Rattle.engine_support.specs.Inputs.{After, schedules, tests}
use Rattle.engine_support.specs.Runs.{Runs}

-- What answers a litmus text and a schedule of either version, where this holds of their test, of what the
-- schedule says and of the answer. The test is judged first, then the schedule's text.
abbrev pub BySchedule : {A : Type 0} → (LitmusTest → ScheduleValue → Result A Refusal → Type 0) → (file schedule : Option (List ℕ)) → Result A Refusal → Type 0
BySchedule IsAnswer file schedule = After tests file (λ test. After schedules schedule (IsAnswer test))

-- This holds of the history that the schedule makes of the test's opening, over store buffers of B pairs
-- and a memory of M words.
pub record IsOfRun {A : Type 0} (B M : ℕ) (IsAnswer : LitmusTest → History → A → Type 0)
    (test : LitmusTest) (parsed : ScheduleValue) (answer : A) : Type 0 where
  pub history : History
  pub ran : Runs B M test.opening parsed (Ok history)
  pub answers : IsAnswer test history answer

-- the same of an answer that a record may be refused with
abbrev pub AnswersRun : {A : Type 0} → (B M : ℕ) → (LitmusTest → History → A → Type 0) → LitmusTest → ScheduleValue → Result A Refusal → Type 0
AnswersRun B M IsAnswer test parsed (Ok answer) = IsOfRun B M IsAnswer test parsed answer
AnswersRun B M IsAnswer test parsed (Err refusal) = Runs B M test.opening parsed (Err refusal)

-- what answers both, where this holds of their history
abbrev pub ByRun : {A : Type 0} → (B M : ℕ) → (LitmusTest → History → A → Type 0) → (file schedule : Option (List ℕ)) → Result A Refusal → Type 0
ByRun B M IsAnswer = BySchedule (AnswersRun B M IsAnswer)

-- This holds of the schedule's events, whatever a record says of their outcomes: no record is refused.
abbrev pub AnswersEvents : {A : Type 0} → (LitmusTest → List Event → A → Type 0) → LitmusTest → ScheduleValue → Result A Refusal → Type 0
AnswersEvents IsAnswer test parsed answer = IsOkAnd answer (IsAnswer test (events_of_schedule parsed))

-- what answers both, where this holds of their events
abbrev pub ByEvents : {A : Type 0} → (LitmusTest → List Event → A → Type 0) → (file schedule : Option (List ℕ)) → Result A Refusal → Type 0
ByEvents IsAnswer = BySchedule (AnswersEvents IsAnswer)
