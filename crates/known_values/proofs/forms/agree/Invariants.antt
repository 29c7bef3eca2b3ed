use Rattle.std.proofs.Common.{◌≡◌, length}
use Rattle.queue_certificates.specs.Forms.{agree}
use Rattle.known_values.proofs.forms.agree.Given as goal

abbrev pub invariant-loop-left : goal.invariant-loop-left
invariant-loop-left l = agree l.modulus l.left l.right ≡ agree l.modulus l.fn.left l.fn.right

abbrev pub decreases-loop-left : goal.decreases-loop-left
decreases-loop-left l = length l.left
