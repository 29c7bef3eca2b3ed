use Rattle.std.proofs.Common.{◌≡◌, take}
use Rattle.chart.specs.Tags.{named_by}
use Rattle.chart.proofs.tags.named_by.Given as goal

abbrev pub invariant-loop-source : goal.invariant-loop-source
invariant-loop-source l = l.named ≡ named_by (take l.source-index l.sources)
