use Rattle.std.proofs.Common.{◌≡◌, true, length}
use Rattle.queue_certificates.specs.{all_below, is_filled}
use Rattle.queue_checker.proofs.filled.may_send.Given as goal

abbrev pub invariant-loop-position : goal.invariant-loop-position
invariant-loop-position l = all_below l.position (λ d. all_below (length l.fields) (is_filled l.size l.slots d)) ≡ true
