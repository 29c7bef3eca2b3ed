use Rattle.std.proofs.Common.{◌≡◌, ◌++◌, length}
use Rattle.queue_certificates.specs.Forms.{fallings}
use Rattle.known_values.proofs.bounds.fallings.Given as goal

abbrev pub invariant-loop-factors : goal.invariant-loop-factors
invariant-loop-factors l = l.falling.items ++ fallings l.modulus l.factors ≡ fallings l.modulus l.fn.factors

abbrev pub decreases-loop-factors : goal.decreases-loop-factors
decreases-loop-factors l = length l.factors
