-- What a test asks about, of histories, positions and schedules.
use Rattle.std.specs.Prelude.{ℕ, ◌≡◌, ◌≤◌, ◌⊎◌, Bool, true, false, List}
use Rattle.step_machine.specs.declared.events.Event.{Event}
use Rattle.step_machine.specs.History.{History}
use Rattle.step_machine.specs.Positions.{Position}
use Rattle.step_machine.specs.Runs.{Run}
use Rattle.litmus.specs.Formulas.{truth}
use Rattle.litmus.specs.LitmusTests.{LitmusTest}
use Rattle.litmus.specs.Verdicts.{IsFinished, IsFinishedAt, final_value, value_there}
use Rattle.litmus.specs.declared.verdict.Quantifier.{Quantifier}
use Rattle.litmus.specs.declared.verdict.Quantifier.TheVariants.{Exists, NotExists, ForAll}
use Rattle.recorder.specs.declared.reading.TheConstants.{MAX_EVENTS}

-- What the condition is in the outcome that is looked for: the one that `exists` and `~exists` ask about makes it
-- true, and the one that refutes `forall` makes it false.
abbrev pub wanted : Quantifier → Bool
wanted Exists = true
wanted NotExists = true
wanted ForAll = false

-- a history that is finished, and whose outcome is one that is looked for
pub record EndsAsWanted (M : ℕ) (test : LitmusTest) (history : History) : Type 0 where
  pub finished : IsFinished M history
  pub condition : truth (final_value M history) test.condition ≡ wanted test.quantifier

-- a position that is finished, and whose outcome is one that is looked for, whatever led there
pub record IsWantedAt (test : LitmusTest) (position : Position) : Type 0 where
  pub finished : IsFinishedAt position
  pub condition : truth (value_there position) test.condition ≡ wanted test.quantifier

-- the run of these events from the test's opening, over store buffers of B pairs and a memory of M words, ends so
pub record Shows (B M : ℕ) (test : LitmusTest) (events : List Event) : Type 0 where
  pub history : History
  pub ran : Run B M test.opening events history
  pub ends : EndsAsWanted M test history

-- what a search saw when it was cut: as many states as it may, or at least as many as a schedule may have events
abbrev pub IsCutShort : (limit states : ℕ) → Type 0
IsCutShort limit states = (states ≤ limit) × ((states ≡ limit) ⊎ (MAX_EVENTS ≤ states))
