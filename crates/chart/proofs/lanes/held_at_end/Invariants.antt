use Rattle.std.proofs.Common.{◌≡◌, take}
use Rattle.chart.specs.Lanes.{held_at_end}
use Rattle.chart.proofs.lanes.held_at_end.Given as goal

abbrev pub invariant-loop-i : goal.invariant-loop-i
invariant-loop-i l = l.held.items ≡ held_at_end l.shape (take l.i l.rows)
