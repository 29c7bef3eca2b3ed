use Rattle.std.proofs.Common.{◌≡◌, map, take}
use Rattle.chart.specs.Lines.{open_stroke}
use Rattle.chart.proofs.layout.open_strokes.Given as goal

abbrev pub invariant-loop-other : goal.invariant-loop-other
invariant-loop-other l = l.strokes.items ≡ map (open_stroke l.places) (take l.other-index l.held)
