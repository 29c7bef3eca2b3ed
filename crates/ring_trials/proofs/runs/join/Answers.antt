use Rattle.std.proofs.Common.{refl, arith, length-set}
use Rattle.std.proofs.lemmas.Option.{slice_get-get_or}
use Rattle.ring_trials.specs.declared.runs.Total.{Total}
use Rattle.ring_trials.proofs.RunsLaws.{taken_more, Both, totals_both}
use Rattle.ring_trials.proofs.runs.join.Goals as goal

pub overflow_add-totals : goal.overflow_add-totals
overflow_add-totals c =
    let at = slice_get-get_or c.loop-index.totals c.loop-index.index (record { most = 0; closed = 0 }) (omega arith) in
    let more = slice_get-get_or c.args.later.now c.loop-index.index (record { most = 0; closed = 0 }) (omega arith) in
    let few = c.requires.few c.loop-index.index _ _ (c.loop-index.invariant.later c.loop-index.index _ (omega arith) at) more in
    omega (arith, few)

pub loop-index-preserved : goal.loop-index-preserved
loop-index-preserved c =
    taken_more Total Both c.args.totals.now c.args.later.now c.loop-index.index c.loop-index.totals _ _ _ _ c.loop-index.invariant
    (slice_get-get_or c.loop-index.totals c.loop-index.index (record { most = 0; closed = 0 }) (omega arith))
    (slice_get-get_or c.args.later.now c.loop-index.index (record { most = 0; closed = 0 }) (omega arith))
    (record { most = c.max.ensures; closed = refl }) refl (length-set c.loop-index.totals c.loop-index.index _)

pub returns-clause-totals : goal.returns-clause-totals
returns-clause-totals c ts us first second =
    totals_both ts us c.args.totals.now c.args.later.now c.loop-index.totals c.loop-index.index (omega arith) first second c.loop-index.invariant
