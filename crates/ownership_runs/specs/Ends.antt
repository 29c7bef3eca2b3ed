-- A run whose last event breaks a queue's protocol, and one whose last event loses a record.
use Rattle.std.specs.Prelude.{ℕ, ◌≡◌, ◌<◌, Bool, List, [], ◌∷◌, ◌++◌, length, Some}
use Rattle.step_machine.specs.declared.events.Event.{Event}
use Rattle.step_machine.specs.declared.events.Entry.{Entry}
use Rattle.step_machine.specs.History.{OpeningValue, History, with_entry}
use Rattle.step_machine.specs.Runs.{Adds, Run}
use Rattle.queue_parties.specs.Parties.{QueueCounts}
use Rattle.queue_layouts.specs.declared.AnyQueue.{AnyQueue}
use Rattle.ownership_runs.specs.declared.losses.Loss.{Loss}
use Rattle.ownership_runs.specs.declared.violations.Violation.{Violation}
use Rattle.ownership_runs.specs.Losses.{IsLossAt}
use Rattle.ownership_runs.specs.Runs.{judged_loss}
use Rattle.ownership_runs.specs.Violations.{first_ownership_violation}

-- the last of these events adds an entry that is the first violation of their run
pub record EndsInViolation (B M : ℕ) (o : OpeningValue) (q : AnyQueue) (start : QueueCounts) (events : List Event) (violation : Violation) : Type 0 where
  pub front : List Event
  pub last : Event
  pub before : History
  pub entry : Entry
  pub events_are : events ≡ front ++ last ∷ []
  pub run : Run B M o front before
  pub adds : Adds B M before last entry (with_entry before entry)
  pub first : first_ownership_violation q start (before.entries ++ entry ∷ []) ≡ Some violation
  pub place : violation.place ≡ length before.entries
  pub of_hart : violation.hart < length o.harts

-- the last of these events adds an entry that is the first loss of their run, or its first one after a violation that is described
pub record EndsInLoss (B M : ℕ) (o : OpeningValue) (q : AnyQueue) (start : QueueCounts) (broken : Bool) (events : List Event) (loss : Loss) : Type 0 where
  pub front : List Event
  pub last : Event
  pub before : History
  pub entry : Entry
  pub events_are : events ≡ front ++ last ∷ []
  pub run : Run B M o front before
  pub adds : Adds B M before last entry (with_entry before entry)
  pub first : judged_loss broken q o start (before.entries ++ entry ∷ []) ≡ Some loss
  pub is_loss : IsLossAt q o start before.entries entry loss
  pub of_hart : loss.hart < length o.harts
