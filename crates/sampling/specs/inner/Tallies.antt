-- What is kept of some runs: their outcomes, how many did not finish, and which verdicts came.
use Rattle.std.specs.Prelude.{ℕ, ◌≡◌, ◌+◌, ◌==◌, ◌||◌, if◌then◌else◌, Bool, not, List, [], ◌++◌, Option, Some, None, codes}
use Rattle.std.specs.List.{list_any}
use Rattle.rand_core.specs.Stream.{Stream}
use Rattle.litmus.specs.declared.verdict.Quantifier.{Quantifier}
use Rattle.litmus.specs.declared.verdict.Quantifier.TheVariants.{Exists, NotExists, ForAll}
use Rattle.litmus.specs.LitmusTests.{LitmusTest}
use Rattle.engine_support.specs.Counting.{counted, counted_both, seen_of}
use Rattle.engine_support.specs.inner.{lines_in}
use Rattle.recorder.specs.Drawing.{drawn_words}
use Rattle.drawn_runs.specs.Draws.{events_by}
use Rattle.sampling.specs.declared.trials.drawn_run.DrawnRun.{DrawnRun}
use Rattle.sampling.specs.declared.trials.tally.Tally.{Tally}
use Rattle.sampling.specs.Trials.{Trial, is_finished, is_holds, is_fails, gave}
use Rattle.sampling.specs.declared.trials.outcomes.Unfinished.{Unfinished}
use Rattle.sampling.specs.Outcomes.{first_schedule, first_unfinished, last_line, left_text, schedule_text, shown_by, unfinished}

-- what names a run: the schedule that its generator draws
abbrev pub name_of_run : {G : Type 0} → (stream_of : G → Stream) → DrawnRun G → List ℕ
name_of_run stream_of run = schedule_text (events_by run.draw run.harts (drawn_words run.size (stream_of run.start)))

-- and what is shown of it if it is the first that did not finish
abbrev pub left_name : {F : Type 0} → (name : F → List ℕ) → Option F → List ℕ
left_name name None = []
left_name name (Some run) = codes " ;" ++ name run

-- a tally of these runs, where a first one is named so
pub record IsTallyOf {F : Type 0} (name : F → List ℕ) (trials : List Trial) (tally : Tally F) : Type 0 where
  pub counts : (outcome : List ℕ) → counted name tally.outcomes outcome ≡ seen_of gave first_schedule trials outcome
  pub unfinished_are : tally.unfinished ≡ unfinished trials
  pub first_is : left_name name tally.first_unfinished ≡ first_unfinished trials
  pub holds : tally.some_hold ≡ list_any (λ t. is_holds t.verdict) trials
  pub fails : tally.some_fail ≡ list_any (λ t. is_fails t.verdict) trials

-- what the last line ends with after one run more, if it ended with `end` and this number of runs did not finish
abbrev pub end_after : Trial → (unfinished : ℕ) → (end : List ℕ) → List ℕ
end_after trial unfinished end = if is_finished trial.verdict then end else (if unfinished == 0 then left_text (Some trial) else end)

-- one more run was tallied
pub record Tallies {F : Type 0} (name : F → List ℕ) (trial : Trial) (old new : Tally F) : Type 0 where
  pub counts : (outcome : List ℕ) → counted name new.outcomes outcome
      ≡ (if gave outcome trial
      then counted_both (counted name old.outcomes outcome) (Some (1, schedule_text trial.events))
      else counted name old.outcomes outcome)
  pub unfinished_are : new.unfinished ≡ old.unfinished + (if is_finished trial.verdict then 0 else 1)
  pub first_is : left_name name new.first_unfinished ≡ end_after trial old.unfinished (left_name name old.first_unfinished)
  pub holds : new.some_hold ≡ (old.some_hold || is_holds trial.verdict)
  pub fails : new.some_fail ≡ (old.some_fail || is_fails trial.verdict)

-- whether runs are good of which some hold, or some fail
abbrev pub good_by : Quantifier → (some_hold some_fail : Bool) → Bool
good_by Exists some_hold some_fail = some_hold
good_by NotExists some_hold some_fail = not some_fail
good_by ForAll some_hold some_fail = not some_fail

-- what is written of a tally of a test's runs
abbrev pub tally_text : {F : Type 0} → (name : F → List ℕ) → Unfinished → LitmusTest → Tally F → List ℕ
tally_text name left test tally = lines_in name test tally.outcomes ++ last_line tally.unfinished (shown_by left (left_name name tally.first_unfinished))

-- and whether the runs show what the test asks
abbrev pub text_and_good : {F : Type 0} → (name : F → List ℕ) → Unfinished → LitmusTest × Tally F → List ℕ × Bool
text_and_good name left made = (tally_text name left made.0 made.1, good_by made.0.quantifier made.1.some_hold made.1.some_fail)
