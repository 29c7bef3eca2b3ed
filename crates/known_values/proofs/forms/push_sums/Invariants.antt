use Rattle.std.proofs.Common.{◌≡◌, ◌++◌, length}
use Rattle.queue_certificates.specs.Forms.{sums}
use Rattle.known_values.proofs.forms.push_sums.Given as goal

abbrev pub invariant-loop-left : goal.invariant-loop-left
invariant-loop-left l = l.out.items ++ sums l.left l.right ≡ l.fn.out.items ++ sums l.fn.left l.fn.right

abbrev pub decreases-loop-left : goal.decreases-loop-left
decreases-loop-left l = length l.left
