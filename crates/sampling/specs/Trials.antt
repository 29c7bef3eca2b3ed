-- Runs of a test from schedules that a generator draws, and the outcomes that they show.
use Rattle.std.specs.Prelude.{ℕ, ◌≡◌, ◌&&◌, Bool, true, false, not, List, length, map, All}
use Rattle.std.specs.List.{range_with_len, list_any}
use Rattle.std.specs.Str.{bytes_eq as are_equal}
use Rattle.rand_core.specs.Stream.{Stream}
use Rattle.step_machine.specs.History.{History}
use Rattle.step_machine.specs.Runs.{Run}
use Rattle.step_machine.specs.declared.events.Event.{Event}
use Rattle.litmus.specs.LitmusTests.{LitmusTest, left_sides}
use Rattle.litmus.specs.Verdicts.{IsVerdict, final_value}
use Rattle.litmus.specs.declared.verdict.Quantifier.{Quantifier}
use Rattle.litmus.specs.declared.verdict.Quantifier.TheVariants.{Exists, NotExists, ForAll}
use Rattle.litmus.specs.declared.verdict.Verdict.{Verdict}
use Rattle.litmus.specs.declared.verdict.Verdict.TheVariants.{Holds, Fails, Unfinished}
use Rattle.drawn_runs.specs.declared.draws.Draw.{Draw}
use Rattle.drawn_runs.specs.Draws.{schedule_by}
use Rattle.drawn_runs.specs.Samples.{DrawnRuns}

-- one run: its schedule, the verdict on it, and the last values of the condition's observed locations
pub record Trial : Type 0 where
  pub events : List Event
  pub verdict : Verdict
  pub values : List ℕ

-- the schedule leads there from the test's opening, over store buffers of B pairs and a memory of M words
pub record IsTrial (B M : ℕ) (test : LitmusTest) (trial : Trial) : Type 0 where
  pub history : History
  pub ran : Run B M test.opening trial.events history
  pub judged : IsVerdict M test history trial.verdict
  pub read : trial.values ≡ map (final_value M history) (left_sides test.condition)

-- this number of runs, from the schedules that the generator's stream draws so, one after the other
pub record AreTrials (B M : ℕ) (test : LitmusTest) (draw : Draw) (stream : Stream) (runs size : ℕ) (trials : List Trial) : Type 0 where
  pub schedules : map (λ t. t.events) trials ≡ map (schedule_by draw (length test.opening.harts) size stream) (range_with_len 0 runs)
  pub ran : All (IsTrial B M test) trials

-- the runs that are drawn so
abbrev pub AreDrawnTrials : DrawnRuns → LitmusTest → List Trial → Type 0
AreDrawnTrials d test trials = AreTrials d.B d.M test d.draw d.stream d.number d.size trials

-- a run is finished where there is a verdict on its outcome
abbrev pub is_finished : Verdict → Bool
is_finished Holds = true
is_finished Fails = true
is_finished Unfinished = false

abbrev pub is_holds : Verdict → Bool
is_holds Holds = true
is_holds Fails = false
is_holds Unfinished = false

abbrev pub is_fails : Verdict → Bool
is_fails Holds = false
is_fails Fails = true
is_fails Unfinished = false

-- whether the run finished with this outcome, the list of the observed locations' values
abbrev pub gave : (outcome : List ℕ) → Trial → Bool
gave outcome trial = is_finished trial.verdict && are_equal outcome trial.values

-- Whether the runs show what the test asks: with `exists` a finished run that holds, else no finished
-- run that fails.
abbrev pub are_good : Quantifier → List Trial → Bool
are_good Exists trials = list_any (λ t. is_holds t.verdict) trials
are_good NotExists trials = not (list_any (λ t. is_fails t.verdict) trials)
are_good ForAll trials = not (list_any (λ t. is_fails t.verdict) trials)
