use Rattle.std.proofs.Common.{◌≡◌, take}
use Rattle.std.specs.Prelude.{map}
use Rattle.queue_certificates.specs.{settled, value_by}
use Rattle.queue_checker.proofs.states.settled_values.Given as goal

abbrev pub invariant-loop-value : goal.invariant-loop-value
invariant-loop-value l = l.out.items ≡ map (value_by (settled l.ranges)) (take l.value-index l.values)
