use Rattle.std.proofs.Common.{◌≡◌, ◌==◌, ◌||◌, [], false, length, get_or}
use Rattle.queue_certificates.specs.{all_below, fields_at, are_so}
use Rattle.queue_checker.proofs.sending.opens_unfilled.Given as goal

abbrev pub invariant-loop-i : goal.invariant-loop-i
invariant-loop-i l = l.all ≡ all_below l.i (λ i. (length (fields_at l.certificate i) == 0) || are_so (get_or l.filled i []) (λ d j. false))
