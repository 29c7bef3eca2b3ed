use Rattle.std.proofs.Common.{◌≡◌, ◌++◌, take}
use Rattle.std.specs.String.{string_bytes}
use Rattle.std.specs.List.{flat_map}
use Rattle.chart.specs.Svg.{stroke_svg}
use Rattle.chart.proofs.svg.push_strokes.Given as goal

abbrev pub invariant-loop-stroke : goal.invariant-loop-stroke
invariant-loop-stroke l = string_bytes l.out ≡ string_bytes l.fn.out ++ flat_map (stroke_svg l.layer l.line) (take l.stroke-index l.strokes)
