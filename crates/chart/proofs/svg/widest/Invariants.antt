use Rattle.std.proofs.Common.{◌≡◌, take, map}
use Rattle.std.specs.String.{string_bytes}
use Rattle.chart.specs.Svg.{widest}
use Rattle.chart.proofs.svg.widest.Given as goal

abbrev pub invariant-loop-text : goal.invariant-loop-text
invariant-loop-text l = l.most ≡ widest l.cells (map string_bytes (take l.text-index l.texts))
