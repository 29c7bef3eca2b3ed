use Rattle.std.proofs.Common.{◌≡◌}
use Rattle.chart.specs.Lines.{head_marks}
use Rattle.chart.proofs.layout.head_marks.Given as goal

abbrev pub invariant-loop-hart : goal.invariant-loop-hart
invariant-loop-hart l = l.marks.items ≡ head_marks l.places l.hart
