-- Two tallies made one: that of the first one's runs and then of the other's.
use Rattle.std.specs.Prelude.{ℕ, ◌≡◌, ◌==◌, ◌+◌, ◌*◌, ◌-◌, ◌||◌, if◌then◌else◌, List}
use Rattle.rand_core.specs.Stream.{Stream}
use Rattle.litmus.specs.LitmusTests.{LitmusTest}
use Rattle.recorder.specs.Drawing.{left_after}
use Rattle.drawn_runs.specs.declared.draws.Draw.{Draw}
use Rattle.sampling.specs.declared.trials.tally.Tally.{Tally}
use Rattle.sampling.specs.Trials.{Trial, AreTrials}
use Rattle.engine_support.specs.Counting.{counted, counted_both}
use Rattle.sampling.specs.inner.Tallies.{IsTallyOf, left_name}

-- the runs of a later tally were taken in after those of this one
pub record Merges {F : Type 0} (name : F → List ℕ) (old later new : Tally F) : Type 0 where
  pub counts : (outcome : List ℕ) → counted name new.outcomes outcome ≡ counted_both (counted name old.outcomes outcome) (counted name later.outcomes outcome)
  pub unfinished_are : new.unfinished ≡ old.unfinished + later.unfinished
  pub first_is : left_name name new.first_unfinished
      ≡ (if old.unfinished == 0 then left_name name later.first_unfinished else left_name name old.first_unfinished)
  pub holds : new.some_hold ≡ (old.some_hold || later.some_hold)
  pub fails : new.some_fail ≡ (old.some_fail || later.some_fail)

-- Where runs come from: buffers of B stores and a memory of M words, the test, how the schedules are drawn and by which stream, and
-- how many events each schedule has.
pub record TestSource : Type 0 where
  pub B : ℕ
  pub M : ℕ
  pub test : LitmusTest
  pub draw : Draw
  pub stream : Stream
  pub size : ℕ

-- the runs from the one of this number on
abbrev pub AreRunsFrom : TestSource → (first number : ℕ) → List Trial → Type 0
AreRunsFrom source first number trials =
    AreTrials source.B source.M source.test source.draw (left_after (first * source.size) source.stream) number source.size trials

-- the tally of the runs from one number up to another
pub record IsTallyFrom {F : Type 0} (name : F → List ℕ) (source : TestSource) (first end : ℕ) (tally : Tally F) : Type 0 where
  pub trials : List Trial
  pub are : AreRunsFrom source first (end - first) trials
  pub tallied : IsTallyOf name trials tally
