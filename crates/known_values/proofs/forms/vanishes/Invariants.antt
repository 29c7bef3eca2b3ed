use Rattle.std.proofs.Common.{◌≡◌, length}
use Rattle.queue_certificates.specs.Forms.{vanishes}
use Rattle.known_values.proofs.forms.vanishes.Given as goal

abbrev pub invariant-loop-factors : goal.invariant-loop-factors
invariant-loop-factors l = vanishes l.modulus l.factors ≡ vanishes l.modulus l.fn.factors

abbrev pub decreases-loop-factors : goal.decreases-loop-factors
decreases-loop-factors l = length l.factors
