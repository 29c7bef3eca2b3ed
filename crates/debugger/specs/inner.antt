-- What serves the proofs alone, where a private contract or a type's invariant names it.
use Rattle.std.specs.Prelude.{ℕ, ◌≡◌, ◌⊎◌, if◌then◌else◌, List, [], ◌∷◌, Option, None, Some, IfSome, ◌<◌, ◌+◌, ◌*◌, ◌/◌, length, take, get_or}
use Rattle.std.specs.Str.Lines.{lines}
use Rattle.debugger.specs.Commands.{command_of}
use Rattle.debugger.specs.declared.debug.command.Command.{Command}
use Rattle.debugger.specs.declared.debug.command.Command.TheVariants.{Quit}
use Rattle.debugger.specs.Transcripts.{left_unread, quits}
use Rattle.step_machine.specs.declared.events.Event.{Event}
use Rattle.litmus.specs.LitmusTests.{LitmusTest}
use Rattle.debugger.specs.DebuggerStates.{DebuggerState, debugger_at_opening}
pub use Rattle.engine_support.specs.inner.{IsFailure, IsReadFailure}
use Rattle.step_machine.specs.History.{OpeningValue, History}
use Rattle.step_machine.specs.Runs.{Run}
use Rattle.step_machine.specs.Snapshots.{SnapshotView, IsTakenAt}
use Rattle.debugger.specs.declared.session.TheConstants.{SNAPSHOT_EVENTS}

-- the input's next line, where its bytes are known
abbrev pub IsNextLine : (old new : Option (List ℕ)) → (line : List ℕ) → Type 0
IsNextLine None new line = Unit {0}
IsNextLine (Some bytes) None line = ⊥
IsNextLine (Some bytes) (Some rest) line = lines bytes ≡ line ∷ lines rest

-- what the next line asks for; where there is none, to quit
abbrev pub AsksNext : (old new : Option (List ℕ)) → Option Command → Type 0
AsksNext old new asked = (IfSome old (λ bytes. lines bytes ≡ []) × (asked ≡ Some Quit))
    ⊎ ((line : List ℕ) × (asked ≡ command_of line) × IsNextLine old new line)

-- The line that asks was taken from the input. What is left then is what the transcript leaves, or begins with its
-- next line.
abbrev pub TakesAsking : (old new : Option (List ℕ)) → Option Command → Type 0
TakesAsking None new asked = Unit {0}
TakesAsking (Some bytes) None asked = ⊥
TakesAsking (Some bytes) (Some rest) asked = left_unread bytes ≡ (if quits asked then rest else left_unread rest)

-- ---- how the debugger begins

-- a debugger at a test's opening, along these events
abbrev pub IsAtStart : LitmusTest → List Event → DebuggerState → Type 0
IsAtStart test events debugger = debugger ≡ debugger_at_opening test.opening events

-- ---- the snapshots that a session holds

-- it was taken after these events
abbrev pub IsTakenAfter : ℕ → ℕ → OpeningValue → List Event → SnapshotView → Type 0
IsTakenAfter B M o evs s = (t : History) × Run B M o evs t × IsTakenAt B M t s

-- one was taken at the opening, and one after every SNAPSHOT_EVENTS events
pub record HasSnapshots (B M : ℕ) (o : OpeningValue) (evs : List Event) (snapshots : List SnapshotView) : Type 0 where
  pub count : length snapshots ≡ length evs / SNAPSHOT_EVENTS + 1
  pub taken : (k : ℕ) (s : SnapshotView) → k < length snapshots → IsTakenAfter B M o (take (k * SNAPSHOT_EVENTS) evs) (get_or snapshots k s)
