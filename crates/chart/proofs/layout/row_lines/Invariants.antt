use Rattle.std.proofs.Common.{◌≡◌}
use Rattle.chart.specs.Lines.{first_row_lines}
use Rattle.chart.proofs.layout.row_lines.Given as goal

abbrev pub invariant-loop-i : goal.invariant-loop-i
invariant-loop-i l = l.out.items ≡ first_row_lines l.form l.scene l.places l.lanes l.i
