-- Runs after runs: their schedules, and the tally of them all from the tallies of the two parts.
use Rattle.rand_core.specs.Stream.{Stream}
use Rattle.std.proofs.Common.{◌≡◌, ℕ, zero, suc, ◌+◌, ◌*◌, Bool, cond, ◌||◌, not, List, [], ◌++◌, length, map, Option, sym, ap, ap₂, ◌∙◌, arith, append-nil}
use Rattle.std.proofs.Common.{append_assoc, subst, ◌-◌, ◌≤◌, ◌<◌, ◌∷◌, refl}
use Rattle.std.specs.List.{list_any, range_with_len}
use Rattle.std.specs.Prelude.{IfSome, ◌==◌}
use Rattle.std.proofs.lemmas.List.{map-append, length-map}
use Rattle.std.proofs.lemmas.List.Folds.{list_any-append}
use Rattle.std.proofs.lemmas.List.Sums.{sum_by-append, count_by-le-length}
use Rattle.std.proofs.lemmas.List.Elements.{All-append, All-cons, All-nil}
use Rattle.std.proofs.lemmas.List.FromFn.{map-range_with_len_more, length-map-range_with_len}
use Rattle.step_machine.specs.declared.events.Event.{Event}
use Rattle.litmus.specs.LitmusTests.{LitmusTest}
use Rattle.recorder.specs.Drawing.{left_after}
use Rattle.recorder.proofs.Drawn.{left_after-sum}
use Rattle.drawn_runs.specs.declared.draws.Draw.{Draw}
use Rattle.drawn_runs.specs.Draws.{schedule_by}
use Rattle.engine_support.specs.Counting.{Counted, counted, counted_both, seen_of}
use Rattle.engine_support.proofs.OutcomeTables.{seen_both, seen_few}
use Rattle.sampling.specs.{Tally, Trial, IsTrial, AreTrials, gave, is_finished, is_holds, is_fails, first_schedule, unfinished, IsTallyOf, left_name}
use Rattle.sampling.specs.{AreRunsFrom, IsTallyFrom, Merges, TestSource}
use Rattle.sampling.proofs.TallyLaws.{first_of_both, first_of_later, left_of_both}
use Rattle.sampling.specs.Trials.{Trial, IsTrial, AreTrials}

-- Runs by drawn schedules, one more at a time.

-- no run
pub no_trials : (B M : ℕ) (test : LitmusTest) (draw : Draw) (stream : Stream) (size : ℕ) → AreTrials B M test draw stream 0 size []
no_trials B M test draw stream size = record { schedules = refl; ran = All-nil (IsTrial B M test) }

-- and one run more
pub trials_more : (B M : ℕ) (test : LitmusTest) (draw : Draw) (stream : Stream) (number size : ℕ) (trials : List Trial)
    (trial : Trial) → AreTrials B M test draw stream number size trials
    → trial.events ≡ schedule_by draw (length test.opening.harts) size stream number → IsTrial B M test trial
    → AreTrials B M test draw stream (number + 1) size (trials ++ trial ∷ [])
trials_more B M test draw stream number size trials trial are drawn is = grind (
  arith,
  map-append,
  map-range_with_len_more (schedule_by draw (length test.opening.harts) size stream) 0 number number,
  All-append (IsTrial B M test) trials (trial ∷ []) are.ran (All-cons (IsTrial B M test) trial [] is (All-nil (IsTrial B M test))),
  All-cons (IsTrial B M test) trial [] is (All-nil (IsTrial B M test)),
  All-nil (IsTrial B M test),
)

-- ---- the tally of them all

-- two flags, each of one part, are one of all
any_both : (p : Trial → Bool) (front back : List Trial) (old later new : Bool) → new ≡ (old || later) → old ≡ list_any p front → later ≡ list_any p back
    → new ≡ list_any p (front ++ back)
any_both p front back old later new either first second = grind (arith, list_any-append)

both_seen : (front back : List Trial) (outcome : List ℕ)
    → seen_of gave first_schedule (front ++ back) outcome ≡ counted_both (seen_of gave first_schedule front outcome) (seen_of gave first_schedule back outcome)
both_seen front back outcome =
    seen_both gave first_schedule front back outcome (λ none some. first_of_later outcome front back none) (first_of_both outcome front back)

-- two tallies make the tally of the first one's runs and then the other's
tally_both : {F : Type 0} (name : F → List ℕ) (front back : List Trial) (old later new : Tally F) → IsTallyOf name front old → IsTallyOf name back later
    → Merges name old later new → IsTallyOf name (front ++ back) new
tally_both name front back old later new first second merged = record {
  counts = λ outcome.
      merged.counts outcome
      ∙ ap (λ (o : Option Counted). counted_both o (counted name later.outcomes outcome)) (first.counts outcome)
      ∙ ap (counted_both (seen_of gave first_schedule front outcome)) (second.counts outcome)
      ∙ sym (both_seen front back outcome);
  unfinished_are =
      let e = sum_by-append (λ (y : Trial). cond (not (is_finished y.verdict)) 1 0) front back in
      omega (arith, e, merged.unfinished_are, first.unfinished_are, second.unfinished_are);
  first_is = merged.first_is
      ∙ ap (λ (n : ℕ). cond (n == 0) (left_name name later.first_unfinished) (left_name name old.first_unfinished)) first.unfinished_are
      ∙ ap₂ (λ (xs ys : List ℕ). cond (unfinished front == 0) xs ys) second.first_is first.first_is
      ∙ sym (left_of_both front back);
  holds = any_both (λ (t : Trial). is_holds t.verdict) front back _ _ _ merged.holds first.holds second.holds;
  fails = any_both (λ (t : Trial). is_fails t.verdict) front back _ _ _ merged.fails first.fails second.fails;
}

-- ---- the runs themselves

-- a list of numbered things, and then more of them
numbered_both : {X : Type 0} (f later : ℕ → X) (before number : ℕ) → ((k : ℕ) → later k ≡ f (before + k))
    → map f (range_with_len 0 (before + number)) ≡ map f (range_with_len 0 before) ++ map later (range_with_len 0 number)
numbered_both f later before zero same = grind (arith, append-nil)
numbered_both {X} f later before (suc number) same = grind (
  arith,
  map-range_with_len_more f 0 (before + number) (before + number),
  map-range_with_len_more later 0 number number,
  append_assoc,
  numbered_both f later before number same,
)

-- the schedules from a number on are those that the generator draws there
drawn_later : (draw : Draw) (harts size : ℕ) (stream : Stream) (before number : ℕ)
    → schedule_by draw harts size (left_after (before * size) stream) number
    ≡ schedule_by draw harts size stream (before + number)
drawn_later draw harts size stream before number = grind (arith, left_after-sum)

at_start : (size : ℕ) (stream : Stream) → left_after (0 * size) stream ≡ stream
unfolding left_after
at_start size stream = let none : 0 * size ≡ 0 = omega arith in ap (λ (n : ℕ). left_after n stream) none

module _ (source : TestSource) where
  -- all runs, from the first on
  abbrev AreRuns : (runs : ℕ) → List Trial → Type 0
  AreRuns runs trials = AreTrials source.B source.M source.test source.draw source.stream runs source.size trials

  abbrev IsRun : Trial → Type 0
  IsRun trial = IsTrial source.B source.M source.test trial

  -- runs, and those that the generator draws after them
  runs_both : (before number : ℕ) (front back : List Trial) → AreRuns before front
      → AreRunsFrom source before number back → AreRuns (before + number) (front ++ back)
  runs_both before number front back first second =
      let drawing = schedule_by source.draw (length source.test.opening.harts) source.size source.stream in
      let later = schedule_by source.draw (length source.test.opening.harts) source.size (left_after (before * source.size) source.stream) in
      record {
        schedules =
            map-append (λ (t : Trial). t.events) front back
            ∙ ap (λ (xs : List (List Event)). xs ++ map (λ (t : Trial). t.events) back) first.schedules
            ∙ ap (λ (xs : List (List Event)). map drawing (range_with_len 0 before) ++ xs) second.schedules
            ∙ sym (numbered_both drawing later before number (drawn_later source.draw (length source.test.opening.harts) source.size source.stream before));
        ran = All-append IsRun front back first.ran second.ran;
      }

  -- all runs, as those from the first on
  are_first : (runs : ℕ) (trials : List Trial) → AreRuns runs trials → AreRunsFrom source 0 (runs - 0) trials
  are_first runs trials are =
      let all : runs ≡ runs - 0 = omega arith in
      subst (λ (n : ℕ). AreRunsFrom source 0 n trials) all
      (subst (λ (s : Stream). AreTrials source.B source.M source.test source.draw s runs source.size trials) (sym (at_start source.size source.stream)) are)

module _ {F : Type 0} {name : F → List ℕ} (source : TestSource) where
  -- from the first run on, all runs
  first_are : (runs : ℕ) (tally : Tally F) → (is : IsTallyFrom name source 0 runs tally) → AreRuns source runs is.trials
  first_are runs tally is =
      let all : runs - 0 ≡ runs = omega arith in
      subst (λ (n : ℕ). AreRuns source n is.trials) all
      (subst
      (λ (s : Stream). AreTrials source.B source.M source.test source.draw s (runs - 0) source.size is.trials)
      (at_start source.size source.stream) is.are)

  pub from_all : (runs : ℕ) (tally : Tally F) → IsTallyFrom name source 0 runs tally
      → (trials : List Trial) × AreRuns source runs trials × IsTallyOf name trials tally
  from_all runs tally is = (is.trials, first_are runs tally is, is.tallied)

  -- the tally that has none is that of no run
  pub from_none : (tally : Tally F) → IsTallyOf name [] tally → IsTallyFrom name source 0 0 tally
  from_none tally none = record {
    trials = [];
    are = are_first source 0 [] (no_trials source.B source.M source.test source.draw source.stream source.size);
    tallied = none;
  }

  -- the runs before some others, and these
  module _ (before end : ℕ) (old later : Tally F) (le : before ≤ end) (first : IsTallyFrom name source 0 before old)
      (second : IsTallyFrom name source before end later) where
    abbrev both : List Trial
    both = first.trials ++ second.trials

    both_are : AreRuns source end both
    both_are =
        let sum : before + (end - before) ≡ end = omega (arith, le) in
        subst (λ (n : ℕ). AreRuns source n both) sum (runs_both source before (end - before) first.trials second.trials (first_are before old first) second.are)

    pub from_both : (new : Tally F) → Merges name old later new → IsTallyFrom name source 0 end new
    from_both new merged = record {
      trials = both;
      are = are_first source end both both_are;
      tallied = tally_both name first.trials second.trials old later new first.tallied second.tallied merged;
    }

    both_long : length both ≡ end
    both_long =
        sym (length-map both (λ (t : Trial). t.events)) ∙ ap (λ (xs : List (List Event)). length xs) both_are.schedules
        ∙ length-map-range_with_len (schedule_by source.draw (length source.test.opening.harts) source.size source.stream) 0 end

    -- no count is above the number of all runs
    pub both_few : (most : ℕ) → end < most → (outcome : List ℕ)
        → IfSome {T = Counted} (counted_both (counted name old.outcomes outcome) (counted name later.outcomes outcome)) (λ seen. seen.0 < most)
    both_few most few outcome =
        rw (first.tallied.counts outcome, second.tallied.counts outcome, ← both_seen first.trials second.trials outcome)
        (seen_few gave first_schedule both outcome most (omega (arith, both_long, few)))

    pub both_unfinished_few : (most : ℕ) → end < most → old.unfinished + later.unfinished < most
    both_unfinished_few most few =
        let e = sum_by-append (λ (y : Trial). cond (not (is_finished y.verdict)) 1 0) first.trials second.trials in
        omega (
          arith,
          both_long,
          few,
          e,
          first.tallied.unfinished_are,
          second.tallied.unfinished_are,
          count_by-le-length (λ (t : Trial). not (is_finished t.verdict)) both,
        )
