use Rattle.std.proofs.Common.{refl, ◌≡◌, ℕ, Bool, List, ◌++◌, ap, ap₂, ◌∙◌, arith}
use Rattle.std.specs.List.{flat_map, list_any}
use Rattle.litmus.specs.LitmusTests.{LitmusTest}
use Rattle.litmus.specs.declared.verdict.Quantifier.{Quantifier}
use Rattle.drawn_runs.specs.Samples.{runs_of, DrawnRuns}
use Rattle.engine_support.specs.inner.{lines_in}
use Rattle.engine_support.specs.Counting.{AreCountedLines, counted}
use Rattle.engine_support.proofs.OutcomeTables.{are_outcomes, table_is}
use Rattle.sampling.specs.inner.Tallies.{name_of_run, tally_text, text_and_good}
use Rattle.sampling.proofs.trials.drawn.Goals as goal
use Rattle.sampling.specs.{Tally, Trial, AreDrawnTrials, is_holds, is_fails, gave, are_good, Unfinished, first_schedule, last_line, shown_by, unfinished}
use Rattle.sampling.specs.{outcome_with_count, IsTried, IsTallyOf, good_by, left_name}

-- The text of a tally is that of its runs.

good_is : (quantifier : Quantifier) (trials : List Trial)
    → good_by quantifier (list_any (λ (t : Trial). is_holds t.verdict) trials)
    (list_any (λ (t : Trial). is_fails t.verdict) trials) ≡ are_good quantifier trials
good_is quantifier trials = grind arith

pub tried : {F : Type 0} (name : F → List ℕ) (d : DrawnRuns) (left : Unfinished) (test : LitmusTest) (trials : List Trial)
    (tally : Tally F) (lines text : List ℕ) (good : Bool)
    → AreDrawnTrials d test trials → IsTallyOf name trials tally
    → AreCountedLines test (counted name tally.outcomes) lines
    → text ≡ lines ++ last_line tally.unfinished (shown_by left (left_name name tally.first_unfinished))
    → good ≡ good_by test.quantifier tally.some_hold tally.some_fail → IsTried d left test (text, good)
tried name d left test trials tally lines text good are is made written judged = record {
  trials = trials;
  are = are;
  outcomes = made.outcomes;
  shown = are_outcomes gave first_schedule test trials (counted name tally.outcomes) lines is.counts made;
  text = written
      ∙ ap₂ (λ (xs : List ℕ) (n : ℕ). xs ++ last_line n (shown_by left (left_name name tally.first_unfinished)))
      (table_is gave first_schedule test trials (counted name tally.outcomes) lines is.counts made) is.unfinished_are
      ∙ ap (λ (end : List ℕ). flat_map (outcome_with_count test trials) made.outcomes ++ last_line (unfinished trials) (shown_by left end)) is.first_is;
  good = judged ∙ ap₂ (good_by test.quantifier) is.holds is.fails ∙ good_is test.quantifier trials;
}

pub returns : goal.returns
returns g c left =
    let name = name_of_run g.G.Rng.stream in
    let test = c.args.test.now in
    let tally = c.in_ok-tally.tally in
    let (trials, are, tallied) = c.in_ok-tally.ensures in
    tried name (runs_of g.row.B g.row.M g.G.Rng.stream c.args.sample.now) left test trials tally (lines_in name test tally.outcomes)
    (tally_text name left test tally) (text_and_good name left (test, tally)).1 are tallied c.has_lines.ensures refl refl
