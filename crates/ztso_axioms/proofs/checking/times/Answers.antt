use Rattle.std.proofs.Common.{arith}
use Rattle.ztso_axioms.proofs.Listing.{times_hit, times_missed}
use Rattle.ztso_axioms.proofs.checking.times.Goals as goal
use Rattle.ztso_axioms.proofs.checking.times.Goals.{then-op-place, else-op-place}

pub loop-op-preserved : goal.loop-op-preserved
loop-op-preserved c =
    elim c.if-op-place.branch [
      | then-op-place w ↦ record {
        few = omega arith;
        counted = times_hit _ _ _ _ _ c.op-item.result c.loop-op-test.true c.op-item.is (cc)
            c.loop-op.invariant.counted w.times-is;
      }
      | else-op-place w ↦ record {
        few = omega arith;
        counted = times_missed _ _ _ _ _ c.op-item.result c.loop-op-test.true c.op-item.is
            (λ e. w.if-op-place.false (cc)) c.loop-op.invariant.counted w.times-is;
      }
    ]
