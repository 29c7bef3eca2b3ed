use Rattle.std.proofs.Common.{◌≡◌, take}
use Rattle.chart.specs.Scenes.{used_after}
use Rattle.chart.proofs.scenes.used_lanes.Given as goal

abbrev pub invariant-loop-laned : goal.invariant-loop-laned
invariant-loop-laned l = l.used ≡ used_after l.least (take l.laned-index l.lanes)
