-- Runs of lists of events, and a queue's protocol.
use Rattle.std.specs.Prelude.{ℕ, ◌≡◌, ◌-◌, min, if◌then◌else◌, Bool, true, false, List, Option, None, Some}
use Rattle.step_machine.specs.declared.events.Event.{Event}
use Rattle.step_machine.specs.declared.events.Entry.{Entry}
use Rattle.step_machine.specs.History.{OpeningValue, History}
use Rattle.step_machine.specs.Runs.{Run}
use Rattle.queue_parties.specs.Parties.{QueueCounts}
use Rattle.queue_layouts.specs.declared.AnyQueue.{AnyQueue}
use Rattle.judged_runs.specs.Telling.{AreRuns, MOST, summed}
use Rattle.ownership_runs.specs.declared.violations.Violation.{Violation}
use Rattle.ownership_runs.specs.declared.runs.Moved.{Moved}
use Rattle.ownership_runs.specs.Protocols.{run_counts, Keeps}
use Rattle.ownership_runs.specs.Violations.{first_ownership_violation}
use Rattle.ownership_runs.specs.declared.losses.Loss.{Loss}
use Rattle.ownership_runs.specs.Losses.{first_loss}

-- the run of these events keeps the protocol
pub record HasKeptRun (B M : ℕ) (o : OpeningValue) (q : AnyQueue) (start : QueueCounts) (events : List Event) : Type 0 where
  pub history : History
  pub run : Run B M o events history
  pub keeps : Keeps q start history.entries

-- it has no violation
pub record BreaksNothing (B M : ℕ) (o : OpeningValue) (q : AnyQueue) (start : QueueCounts) (events : List Event) : Type 0 where
  pub history : History
  pub run : Run B M o events history
  pub none : first_ownership_violation q start history.entries ≡ None

-- its first violation is this one
pub record HasBrokenRun (B M : ℕ) (o : OpeningValue) (q : AnyQueue) (start : QueueCounts) (events : List Event) (violation : Violation) : Type 0 where
  pub history : History
  pub run : Run B M o events history
  pub first : first_ownership_violation q start history.entries ≡ Some violation

-- one hart's, which both are described or neither is
abbrev pub IsOfOneKind : (violation other : Violation) → Type 0
IsOfOneKind violation other = (violation.hart ≡ other.hart) × (violation.described ≡ other.described)

-- ---- what is lost

-- after a first violation that is described
abbrev pub loss_after : AnyQueue → OpeningValue → (start : QueueCounts) → List Entry → Option Violation → Option Loss
loss_after q o start es None = None
loss_after q o start es (Some b) = if b.described then first_loss (Some b.place) q o start es else None

-- a run's first loss, or its first one after such a violation
abbrev pub judged_loss : (broken : Bool) → AnyQueue → OpeningValue → (start : QueueCounts) → List Entry → Option Loss
judged_loss false q o start es = first_loss None q o start es
judged_loss true q o start es = loss_after q o start es (first_ownership_violation q start es)

-- the run of these events loses nothing of a queue's records, or nothing after such a violation
pub record LosesNothing (B M : ℕ) (o : OpeningValue) (q : AnyQueue) (start : QueueCounts) (broken : Bool) (events : List Event) : Type 0 where
  pub history : History
  pub run : Run B M o events history
  pub none : judged_loss broken q o start history.entries ≡ None

-- the first that it loses so is this
pub record HasLoss (B M : ℕ) (o : OpeningValue) (q : AnyQueue) (start : QueueCounts) (broken : Bool) (events : List Event) (loss : Loss) : Type 0 where
  pub history : History
  pub run : Run B M o events history
  pub first : judged_loss broken q o start history.entries ≡ Some loss

-- the first violation of these entries is described, and after it this is the first loss
pub record BreaksAndLoses (o : OpeningValue) (q : AnyQueue) (start : QueueCounts) (es : List Entry) (loss : Loss) : Type 0 where
  pub violation : Violation
  pub first : first_ownership_violation q start es ≡ Some violation
  pub described : violation.described ≡ true
  pub loses : first_loss (Some violation.place) q o start es ≡ Some loss

-- one hart's
abbrev pub IsLossOfOneKind : (loss other : Loss) → Type 0
IsLossOfOneKind loss other = loss.hart ≡ other.hart

-- runs that lose nothing count to nothing
abbrev pub CountsNothing : Type 0
CountsNothing = Unit {0}

-- ---- by how much the parties moved on

abbrev pub published_in : AnyQueue → QueueCounts → History → ℕ
published_in q start t = (run_counts q start t.entries).published - start.published

abbrev pub taken_in : AnyQueue → QueueCounts → History → ℕ
taken_in q start t = (run_counts q start t.entries).taken - start.taken

-- the history is the run of these events, in which they moved on by this much
pub record HasMoved (B M : ℕ) (o : OpeningValue) (q : AnyQueue) (start : QueueCounts) (events : List Event) (history : History) (moved : Moved) : Type 0 where
  pub run : Run B M o events history
  pub published : moved.published ≡ min (published_in q start history) MOST
  pub taken : moved.taken ≡ min (taken_in q start history) MOST

-- in the runs of these lists of events together
pub record AreMovesOf (B M : ℕ) (o : OpeningValue) (q : AnyQueue) (start : QueueCounts) (all : List (List Event)) (moved : Moved) : Type 0 where
  pub histories : List History
  pub runs : AreRuns B M o all histories
  pub published : moved.published ≡ min (summed (published_in q start) histories) MOST
  pub taken : moved.taken ≡ min (summed (taken_in q start) histories) MOST
