use Rattle.std.proofs.Common.{◌≡◌, drop}
use Rattle.chart.specs.Lanes.{held_by}
use Rattle.chart.proofs.lanes.held_by.Given as goal

abbrev pub invariant-loop-other : goal.invariant-loop-other
invariant-loop-other l = held_by l.row (drop l.other-index l.held) ≡ held_by l.row l.held
