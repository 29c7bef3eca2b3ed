use Rattle.std.proofs.Common.{◌≡◌, take}
use Rattle.std.specs.Prelude.{map}
use Rattle.queue_certificates.specs.{lifted, value_by}
use Rattle.queue_checker.proofs.states.lifted_values.Given as goal

abbrev pub invariant-loop-value : goal.invariant-loop-value
invariant-loop-value l = l.out.items ≡ map (value_by lifted) (take l.value-index l.values)
