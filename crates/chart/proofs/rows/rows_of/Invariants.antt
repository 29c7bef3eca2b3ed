use Rattle.std.proofs.Common.{◌≡◌, take}
use Rattle.chart.specs.{landed_by_row, rows_of}
use Rattle.chart.proofs.rows.rows_of.Given as goal

abbrev pub invariant-loop-i : goal.invariant-loop-i
invariant-loop-i l = record {
  rows : l.rows.items ≡ rows_of (take l.i l.entries);
  landed : l.landed.items ≡ landed_by_row (take l.i l.entries);
}
