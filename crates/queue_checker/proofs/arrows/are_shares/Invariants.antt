use Rattle.std.proofs.Common.{◌≡◌, get_or}
use Rattle.queue_certificates.specs.{no_share, all_below, is_share}
use Rattle.queue_checker.proofs.arrows.are_shares.Given as goal

abbrev pub invariant-loop-i : goal.invariant-loop-i
invariant-loop-i l = l.all ≡ all_below l.i (λ i. is_share (get_or l.shares i no_share) (get_or l.wanted i no_share) l.forms)
