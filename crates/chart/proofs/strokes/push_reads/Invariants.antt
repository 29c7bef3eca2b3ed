use Rattle.std.proofs.Common.{◌≡◌, ◌++◌, take}
use Rattle.std.specs.List.{flat_map}
use Rattle.chart.specs.Lines.{read_strokes}
use Rattle.chart.proofs.strokes.push_reads.Given as goal

abbrev pub invariant-loop-held : goal.invariant-loop-held
invariant-loop-held l = l.out.items ≡ l.fn.out.items ++ flat_map (read_strokes l.places l.sources l.column l.following) (take l.held-index l.passing)
