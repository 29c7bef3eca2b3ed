use Rattle.std.proofs.Common.{◌≡◌, ◌+◌, length}
use Rattle.queue_certificates.specs.Forms.{dot}
use Rattle.known_values.proofs.forms.dot.Given as goal

abbrev pub invariant-loop-factors : goal.invariant-loop-factors
invariant-loop-factors l = l.total + dot l.factors l.numbers ≡ dot l.fn.factors l.fn.numbers

abbrev pub decreases-loop-factors : goal.decreases-loop-factors
decreases-loop-factors l = length l.factors
