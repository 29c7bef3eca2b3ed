use Rattle.std.proofs.Common.{◌≡◌, ◌++◌, drop, length}
use Rattle.litmus.specs.{firsts, step_places, left_to_see}
use Rattle.litmus.proofs.lefts.first_places.Given as goal

abbrev pub invariant-loop-step : goal.invariant-loop-step
invariant-loop-step l = (length l.seen.items ≡ 3072) × (l.places.items ++ left_to_see l.seen.items (drop l.step-index l.steps) ≡ firsts (step_places l.steps))
