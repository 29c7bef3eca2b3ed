use Rattle.std.proofs.Common.{◌≡◌, map, take}
use Rattle.ownership_runs.specs.declared.steps.Step.{Step}
use Rattle.ownership_runs.proofs.steps.entries_of.Given as goal

abbrev pub invariant-loop-step : goal.invariant-loop-step
invariant-loop-step l = l.entries.items ≡ map (λ (s : Step). s.entry) (take l.step-index l.steps)
