use Rattle.std.proofs.Common.{◌≡◌, ◌+◌, ◌-◌, ◌*◌, ◌^◌, drop}
use Rattle.ownership_runs.specs.Steps.{handed_back}
use Rattle.ownership_runs.specs.inner.Bounds.{STEP, AreCountsWithin}
use Rattle.ownership_runs.proofs.steps.handed_back.Given as goal

abbrev pub invariant-loop-step : goal.invariant-loop-step
invariant-loop-step l = record {
  counts : AreCountsWithin (2 ^ 64 - 1 + STEP * l.step-index) (2 ^ 64 - 1 + STEP * l.step-index) l.counts;
  rest : handed_back l.queue l.position l.counts (drop l.step-index l.steps) ≡ handed_back l.queue l.position l.fn.start l.steps;
}
