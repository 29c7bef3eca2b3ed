use Rattle.std.proofs.Common.{◌≡◌, take}
use Rattle.std.specs.Prelude.{map}
use Rattle.queue_certificates.specs.{settled, raised, value_by}
use Rattle.queue_checker.proofs.states.high_values.Given as goal

abbrev pub invariant-loop-value : goal.invariant-loop-value
invariant-loop-value l = l.out.items ≡ map (value_by (λ f. settled l.ranges (raised l.variable l.by f))) (take l.value-index l.values)
