-- The command `try`: the outcomes of a test's runs, each with how many runs gave it and the schedule of
-- the first one, and how many runs did not finish, if asked with the schedule of the first of these.
use Rattle.std.specs.Prelude.{ℕ, ◌≡◌, ◌==◌, if◌then◌else◌, Bool, not, List, [], ◌++◌, length, find, flat_map, count_by}
use Rattle.std.specs.Prelude.{IsOkAnd, Option, Some, None, Result, codes, ◌∷◌}
use Rattle.std.specs.Fmt.{decimal}
use Rattle.step_machine.specs.declared.events.Event.{Event}
use Rattle.litmus.specs.LitmusTests.{LitmusTest}
use Rattle.drawn_runs.specs.Samples.{DrawnRuns}
use Rattle.recorder.specs.Writing.{schedule_tokens}
use Rattle.engine_support.specs.declared.fault.Refusal.{Refusal}
use Rattle.engine_support.specs.Outcomes.{AreOutcomes, line_of}
use Rattle.engine_support.specs.Inputs.{After, tests}
use Rattle.sampling.specs.Trials.{Trial, AreDrawnTrials, is_finished, gave, are_good}
use Rattle.sampling.specs.declared.trials.outcomes.Unfinished.{Unfinished}
use Rattle.sampling.specs.declared.trials.outcomes.Unfinished.TheVariants.{Counted, Shown}

-- a schedule's tokens after a space, where it has any
abbrev pub schedule_text : List Event → List ℕ
schedule_text events = if length events == 0 then [] else (codes " " ++ schedule_tokens events)

-- of the first of these runs, which there is for every outcome
abbrev pub first_schedule_text : Option Trial → List ℕ
first_schedule_text None = []
first_schedule_text (Some trial) = schedule_text trial.events

-- what the line of an outcome ends with: the schedule of the first of these runs that gave it
abbrev pub first_schedule : (outcome : List ℕ) → List Trial → List ℕ
first_schedule outcome trials = first_schedule_text (find (gave outcome) trials)

-- the line of an outcome, with how many runs gave it and the schedule of the first run that did
abbrev pub outcome_with_count : LitmusTest → List Trial → (outcome : List ℕ) → List ℕ
outcome_with_count test trials outcome = line_of test outcome (count_by (gave outcome) trials) (first_schedule outcome trials)

abbrev pub is_left : Trial → Bool
is_left trial = not (is_finished trial.verdict)

-- how many runs did not finish
abbrev pub unfinished : List Trial → ℕ
unfinished trials = count_by is_left trials

-- its schedule, if this is the first run that did not finish
abbrev pub left_text : Option Trial → List ℕ
left_text None = []
left_text (Some trial) = codes " ;" ++ schedule_text trial.events

abbrev pub first_unfinished : List Trial → List ℕ
first_unfinished trials = left_text (find is_left trials)

-- of it what the last line is to end with
abbrev pub shown_by : Unfinished → (first : List ℕ) → List ℕ
shown_by Counted first = []
shown_by Shown first = first

-- the last line: how many runs did not finish, and what it ends with
abbrev pub last_line : (count : ℕ) → (end : List ℕ) → List ℕ
last_line count end = codes "unfinished " ++ (decimal count ++ (end ++ 10 ∷ []))

-- the text of these runs of a test, and whether they show what the test asks
pub record IsTried (d : DrawnRuns) (left : Unfinished) (test : LitmusTest) (answer : List ℕ × Bool) : Type 0 where
  pub trials : List Trial
  pub are : AreDrawnTrials d test trials
  pub outcomes : List (List ℕ)
  pub shown : AreOutcomes gave trials outcomes
  pub text : answer.0 ≡ flat_map (outcome_with_count test trials) outcomes ++ last_line (unfinished trials) (shown_by left (first_unfinished trials))
  pub good : answer.1 ≡ are_good test.quantifier trials

-- What answers a litmus text, where these runs are drawn.
abbrev pub IsTryAnswer : DrawnRuns → Unfinished → (file : Option (List ℕ)) → Result (List ℕ × Bool) Refusal → Type 0
IsTryAnswer d left file = After tests file (λ test given. IsOkAnd given (IsTried d left test))
