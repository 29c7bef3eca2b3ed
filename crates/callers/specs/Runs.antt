-- Runs of code that calls a queue's functions, by schedules that a generator draws.
use Rattle.std.specs.Prelude.{ℕ, ◌≡◌, List, [], None, Some}
use Rattle.step_machine.specs.declared.events.Event.{Event}
use Rattle.step_machine.specs.History.{OpeningValue, History}
use Rattle.step_machine.specs.Runs.{Run}
use Rattle.spsc_queue.specs.Calls.{UsesAsSpscQueue}
use Rattle.callers.specs.Queues.{spsc_of}
use Rattle.callers.specs.Violations.{first_caller_violation}
use Rattle.callers.specs.declared.violations.CallerViolation.{CallerViolation}
use Rattle.callers.specs.declared.queue.Located.{Located}

-- a run of these events whose callers keep what they owe, so that the queue's theorem holds of it
pub record KeepsObligations (B M : ℕ) (o : OpeningValue) (l : Located) (events : List Event) : Type 0 where
  pub history : History
  pub run : Run B M o events history
  pub uses : UsesAsSpscQueue B M o (spsc_of l) [] history.entries

-- a run of these events that owes nothing
pub record HasNoCallerViolation (B M : ℕ) (o : OpeningValue) (l : Located) (events : List Event) : Type 0 where
  pub history : History
  pub run : Run B M o events history
  pub none : first_caller_violation M o (spsc_of l) history.entries ≡ None

-- the first violation of a run of these events is this one
pub record HasCallerViolation (B M : ℕ) (o : OpeningValue) (l : Located) (events : List Event) (violation : CallerViolation) : Type 0 where
  pub history : History
  pub run : Run B M o events history
  pub first : first_caller_violation M o (spsc_of l) history.entries ≡ Some violation
