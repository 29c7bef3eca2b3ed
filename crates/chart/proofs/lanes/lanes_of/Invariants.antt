use Rattle.std.proofs.Common.{◌≡◌, take}
use Rattle.chart.specs.Lanes.{lanes_of, held_at_end}
use Rattle.chart.proofs.lanes.lanes_of.Given as goal

abbrev pub invariant-loop-i : goal.invariant-loop-i
invariant-loop-i l = record {
  lanes : l.lanes.items ≡ lanes_of l.shape (take l.i l.rows);
  held : l.held.items ≡ held_at_end l.shape (take l.i l.rows);
}
