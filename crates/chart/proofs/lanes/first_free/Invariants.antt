use Rattle.std.proofs.Common.{◌≡◌, ◌-◌}
use Rattle.chart.specs.Lanes.{first_free}
use Rattle.chart.proofs.lanes.first_free.Given as goal

abbrev pub invariant-loop-lane : goal.invariant-loop-lane
invariant-loop-lane l = first_free l.held l.column l.lane (l.lanes - l.lane) ≡ first_free l.held l.column 0 l.lanes
