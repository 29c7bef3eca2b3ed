-- The command `find`: a schedule that shows what a test asks about, where a search met one.
use Rattle.std.specs.Prelude.{ℕ, ◌≡◌, ◌≤◌, ◌<◌, List, [], length, map, Option, Result, Ok, Err}
use Rattle.step_machine.specs.declared.events.Event.{Event}
use Rattle.step_machine.specs.History.{at_opening}
use Rattle.step_machine.specs.Runs.{event_of}
use Rattle.litmus.specs.LitmusTests.{LitmusTest}
use Rattle.recorder.specs.Writing.{canon}
use Rattle.recorder.specs.declared.reading.TheConstants.{MAX_EVENTS}
use Rattle.surveys.specs.Wanted.{EndsAsWanted, IsCutShort, Shows}
use Rattle.engine_support.specs.declared.fault.Refusal.{Refusal}
use Rattle.engine_support.specs.Faults.{too_large}
use Rattle.engine_support.specs.Inputs.{After, tests}
use Rattle.engine_support.specs.declared.input.TheConstants.{INPUT_BYTES}
use Rattle.finding.specs.declared.finds.Found.{Found}
use Rattle.finding.specs.declared.finds.Found.TheVariants.{Shown, AllSeen, Cut}

-- these events show such an outcome, one event an entry, and no schedule with fewer events does
pub record IsWitness (B M : ℕ) (test : LitmusTest) (events : List Event) : Type 0 where
  pub shows : Shows B M test events
  pub each : events ≡ map event_of shows.history.entries
  pub shortest : (fewer : List Event) → length fewer < length events → Shows B M test fewer → ⊥

-- The output is the canonical schedule of events that show such an outcome, and short enough to be an input. Or there is
-- none, and this number of states was seen: either fewer than may be seen, or the search was cut. The opening then doesn't
-- end so.
abbrev pub IsFound : (B M limit : ℕ) → LitmusTest → (out : List ℕ) → Found → Type 0
IsFound B M limit test out Shown =
    (events : List Event) × IsWitness B M test events × (length events ≤ MAX_EVENTS) × (out ≡ canon events) × (length out ≤ INPUT_BYTES)
IsFound B M limit test out (AllSeen states) =
    (out ≡ []) × (1 ≤ states) × (states < limit) × (EndsAsWanted M test (at_opening test.opening) → ⊥)
IsFound B M limit test out (Cut states) = (out ≡ []) × IsCutShort limit states × (EndsAsWanted M test (at_opening test.opening) → ⊥)

-- events that show such an outcome, whose schedule would be refused as an input: its text has too many bytes
pub record HasLongWitness (B M : ℕ) (test : LitmusTest) : Type 0 where
  pub events : List Event
  pub witness : IsWitness B M test events
  pub many : INPUT_BYTES < length (canon events)

-- what a search answers a test, of which only such a schedule is refused
abbrev pub IsFindGiven : (B M limit : ℕ) → LitmusTest → Result (List ℕ × Found) Refusal → Type 0
IsFindGiven B M limit test (Ok answer) = IsFound B M limit test answer.0 answer.1
IsFindGiven B M limit test (Err refusal) = (refusal ≡ too_large) × HasLongWitness B M test

-- what answers a litmus text
abbrev pub IsFindAnswer : (B M limit : ℕ) → (file : Option (List ℕ)) → Result (List ℕ × Found) Refusal → Type 0
IsFindAnswer B M limit file = After tests file (IsFindGiven B M limit)
