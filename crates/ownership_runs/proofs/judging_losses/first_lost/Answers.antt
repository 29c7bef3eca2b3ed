use Rattle.std.proofs.Common.{sym, ◌∙◌}
use Rattle.ownership_runs.specs.Losses.{byte_lost}
use Rattle.ownership_runs.specs.inner.Logging.{answered}
use Rattle.ownership_runs.proofs.Losing.{first-none, first-more, first-here}
use Rattle.ownership_runs.proofs.judging_losses.first_lost.Goals as goal

pub loop-number-init : goal.loop-number-init
loop-number-init c = first-none _

pub loop-number-preserved : goal.loop-number-preserved
loop-number-preserved c = first-more _ c.loop-number.number c.loop-number.invariant (sym c.byte_lost.ensures ∙ c.in_default.is)

pub returns-in-Some : goal.returns-in-Some
returns-in-Some c = sym (first-here
    (byte_lost c.args.queue.now c.args.place c.args.hart c.args.counts (answered c.args.queue.now c.args.counts c.args.log.now) c.args.load.addr
    c.args.load.width c.args.load.value) c.loop-number.number c.args.load.width c.in-Some.loss c.loop-number.invariant
    (sym c.byte_lost.ensures ∙ c.in-Some.is) c.loop-number-test.true)
