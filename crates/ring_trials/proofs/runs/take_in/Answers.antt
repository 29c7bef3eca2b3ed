use Rattle.std.proofs.Common.{false, refl, arith, length-set}
use Rattle.ring_trials.proofs.runs.take_in.Goals as goal
use Rattle.std.proofs.lemmas.Option.{slice_get-get_or}
use Rattle.poll_close.specs.declared.clean.Share.{Share}
use Rattle.ring_trials.proofs.RunsLaws.{OneMore, taken_more, totals_more}
use Rattle.ring_trials.proofs.runs.take_in.Goals.{then-share, else-share}

-- src/runs.rt:61:17
pub overflow_add-totals : goal.overflow_add-totals
overflow_add-totals c =
    let at = slice_get-get_or c.loop-index.totals c.loop-index.index (record { most = 0; closed = 0 }) (omega arith) in
    let few = c.requires.few c.loop-index.index _ (c.loop-index.invariant.later c.loop-index.index _ (omega arith) at) in omega (arith, few)

-- src/runs.rt:55:5
pub loop-index-preserved : goal.loop-index-preserved
loop-index-preserved c =
    taken_more Share OneMore c.args.totals.now c.args.shares.now c.loop-index.index c.loop-index.totals _
    (record { most = c.max.result; closed = c.if-share.totals }) _ _ c.loop-index.invariant
    (slice_get-get_or c.loop-index.totals c.loop-index.index (record { most = 0; closed = 0 }) (omega arith))
    (slice_get-get_or c.args.shares.now c.loop-index.index (record { taken = 0; closed = false }) (omega arith))
    (record { most = c.max.ensures; closed = elim c.if-share.branch [ then-share w ↦ grind arith | else-share w ↦ grind arith ] }) refl
    (length-set c.loop-index.totals c.loop-index.index _)

-- src/runs.rt:48:1
pub returns-clause-totals : goal.returns-clause-totals
returns-clause-totals c ts t totals notes =
    totals_more ts t c.args.totals.now c.loop-index.totals c.args.shares.now c.loop-index.index (omega arith) totals notes c.loop-index.invariant
