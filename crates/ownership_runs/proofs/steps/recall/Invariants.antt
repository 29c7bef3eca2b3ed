use Rattle.std.proofs.Common.{◌≡◌, drop}
use Rattle.queue_layouts.specs.Sides.{the_party}
use Rattle.ownership_runs.specs.Steps.{recalled, recalled_all}
use Rattle.ownership_runs.proofs.steps.recall.Given as goal

abbrev pub invariant-loop-step : goal.invariant-loop-step
invariant-loop-step l = recalled_all l.queue l.hart (the_party l.party) l.position l.found (drop l.step-index l.steps)
    ≡ recalled l.queue l.hart (the_party l.party) l.position l.steps
