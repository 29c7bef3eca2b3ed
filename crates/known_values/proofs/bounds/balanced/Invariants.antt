use Rattle.std.proofs.Common.{◌≡◌, ◌++◌, length}
use Rattle.queue_certificates.specs.Forms.{balanced}
use Rattle.known_values.proofs.bounds.balanced.Given as goal

abbrev pub invariant-loop-factors : goal.invariant-loop-factors
invariant-loop-factors l = l.words.items ++ balanced l.modulus l.factors ≡ balanced l.modulus l.fn.factors

abbrev pub decreases-loop-factors : goal.decreases-loop-factors
decreases-loop-factors l = length l.factors
