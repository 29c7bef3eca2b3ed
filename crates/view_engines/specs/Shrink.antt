-- The command `shrink`: a schedule with the same outcome, from which nothing can be left out.
use Rattle.std.specs.Prelude.{ℕ, ◌≡◌, List, Option, Result, Ok, Err}
use Rattle.step_machine.specs.History.{History}
use Rattle.step_machine.specs.declared.events.Event.{Event}
use Rattle.litmus.specs.LitmusTests.{LitmusTest}
use Rattle.litmus.specs.Verdicts.{IsFinished}
use Rattle.recorder.specs.Versions.{ScheduleValue, events_of_schedule}
use Rattle.recorder.specs.Writing.{canon}
use Rattle.shrink.specs.Shrinking.{IsShrunk}
use Rattle.shrink.specs.declared.faults.ShrinkError.{ShrinkError}
use Rattle.shrink.specs.declared.faults.ShrinkError.TheVariants as error
use Rattle.engine_support.specs.declared.fault.Fault.{Fault}
use Rattle.engine_support.specs.declared.fault.Fault.TheVariants.{NoMemory, Refused}
use Rattle.engine_support.specs.declared.fault.Refusal.{Refusal}
use Rattle.engine_support.specs.declared.fault.Position.TheVariants.{Nowhere}
use Rattle.engine_support.specs.Engines.{Output}
use Rattle.engine_support.specs.Histories.{BySchedule}
use Rattle.engine_support.specs.Runs.{Runs}

-- a run that isn't finished is refused as a whole
abbrev pub not_finished : Refusal
not_finished = record { number = 40; place = Nowhere }

-- why a run isn't shrunk, as a fault
abbrev pub fault_of_shrink : ShrinkError → Fault
fault_of_shrink error.NoMemory = NoMemory
fault_of_shrink error.NotFinished = Refused not_finished

-- The output is the canonical text of a part of the schedule's events, which ends as they do and from
-- which no single event can be left out. Of a record each outcome is the run's.
pub record IsShrinkOf (B M : ℕ) (test : LitmusTest) (parsed : ScheduleValue) (answer : Output) : Type 0 where
  pub history : History
  pub ran : Runs B M test.opening parsed (Ok history)
  pub events : List Event
  pub shrunk : IsShrunk B M test (events_of_schedule parsed) events
  pub written : answer.0 ≡ canon events

-- Why a schedule isn't shrunk: a record differs from its run, or at the end of the run a hart hasn't ended
-- or a store is pending.
pub data IsNotShrunk (B M : ℕ) (test : LitmusTest) (parsed : ScheduleValue) : Refusal → Type 0 where
  differs : (refusal : Refusal) → Runs B M test.opening parsed (Err refusal) → IsNotShrunk B M test parsed refusal
  unfinished : (history : History) → Runs B M test.opening parsed (Ok history) → (IsFinished M history → ⊥)
      → IsNotShrunk B M test parsed not_finished

-- what answers a test and what a schedule says
abbrev pub IsShrink : (B M : ℕ) → LitmusTest → ScheduleValue → Result Output Refusal → Type 0
IsShrink B M test parsed (Ok answer) = IsShrinkOf B M test parsed answer
IsShrink B M test parsed (Err refusal) = IsNotShrunk B M test parsed refusal

-- what answers a litmus text and a schedule
abbrev pub IsShrinkAnswer : (B M : ℕ) → (file schedule : Option (List ℕ)) → Result Output Refusal → Type 0
IsShrinkAnswer B M = BySchedule (IsShrink B M)

-- Two answers are both outputs, or refusals of one number.
abbrev pub AreOfOneKind : {A : Type 0} → Result A Refusal → Result A Refusal → Type 0
AreOfOneKind (Ok a) (Ok b) = Unit {0}
AreOfOneKind (Ok a) (Err s) = ⊥
AreOfOneKind (Err r) (Ok b) = ⊥
AreOfOneKind (Err r) (Err s) = r.number ≡ s.number
