use Rattle.std.proofs.Common.{◌≡◌, ◌++◌}
use Rattle.std.specs.String.{string_bytes}
use Rattle.chart.specs.Pictures.{first_cells}
use Rattle.chart.proofs.text.push_cells.Given as goal

abbrev pub invariant-loop-cell : goal.invariant-loop-cell
invariant-loop-cell l = string_bytes l.out ≡ string_bytes l.fn.out ++ first_cells l.line l.cell
