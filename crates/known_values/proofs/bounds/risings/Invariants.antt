use Rattle.std.proofs.Common.{◌≡◌, ◌++◌, length}
use Rattle.queue_certificates.specs.Forms.{risings}
use Rattle.known_values.proofs.bounds.risings.Given as goal

abbrev pub invariant-loop-factors : goal.invariant-loop-factors
invariant-loop-factors l = l.rising.items ++ risings l.modulus l.factors ≡ risings l.modulus l.fn.factors

abbrev pub decreases-loop-factors : goal.decreases-loop-factors
decreases-loop-factors l = length l.factors
