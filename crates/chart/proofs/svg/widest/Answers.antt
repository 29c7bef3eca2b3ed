use Rattle.std.proofs.Common.{ap, length}
use Rattle.std.specs.String.{string_bytes}
use Rattle.chart.proofs.SvgLaws.{widest-grown}
use Rattle.chart.proofs.svg.widest.Goals as goal

pub loop-text-preserved : goal.loop-text-preserved
loop-text-preserved c =
    widest-grown string_bytes c.args.cells c.loop-text.text-index c.args.texts.now c.text-item.result c.loop-text.most
    _ c.max-most.result c.loop-text.invariant (ap length c.as_bytes.ensures.value) c.text-item.is
    c.loop-text-test.true c.max-most.ensures
