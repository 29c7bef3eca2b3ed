use Rattle.std.proofs.Common.{◌≡◌, take}
use Rattle.chart.specs.Pictures.{struck}
use Rattle.chart.proofs.text.struck.Given as goal

abbrev pub invariant-loop-stroke : goal.invariant-loop-stroke
invariant-loop-stroke l = l.found ≡ struck l.cell 32 (take l.stroke-index l.strokes)
