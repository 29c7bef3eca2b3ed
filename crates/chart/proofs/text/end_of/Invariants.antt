use Rattle.std.proofs.Common.{◌≡◌, ◌≤◌}
use Rattle.chart.specs.Pictures.{text_end}
use Rattle.chart.proofs.text.end_of.Given as goal

abbrev pub invariant-loop-cell : goal.invariant-loop-cell
invariant-loop-cell l = record { end : l.end ≡ text_end l.line l.cell; most : l.end ≤ l.cell }
