use Rattle.std.proofs.Common.{◌≡◌, ◌++◌, map, take}
use Rattle.chart.specs.Lines.{passing_stroke}
use Rattle.chart.proofs.strokes.push_passing.Given as goal

abbrev pub invariant-loop-held : goal.invariant-loop-held
invariant-loop-held l = l.out.items ≡ l.fn.out.items ++ map (passing_stroke l.places l.sources) (take l.held-index l.passing)
