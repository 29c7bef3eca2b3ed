use Rattle.std.proofs.Common.{◌≡◌, length}
use Rattle.queue_certificates.specs.Forms.{combined, plus}
use Rattle.known_values.proofs.forms.combined.Given as goal

abbrev pub invariant-loop-factors : goal.invariant-loop-factors
invariant-loop-factors l = plus l.total (combined l.factors l.forms) ≡ combined l.fn.factors l.fn.forms

abbrev pub decreases-loop-factors : goal.decreases-loop-factors
decreases-loop-factors l = length l.factors
