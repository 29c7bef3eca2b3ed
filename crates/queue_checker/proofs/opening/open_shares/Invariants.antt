use Rattle.std.proofs.Common.{◌≡◌, get_or}
use Rattle.slot_queue.specs.Ownership.{party_of}
use Rattle.queue_certificates.specs.{no_share, all_below, queue_at, start_at, opens_share}
use Rattle.queue_checker.proofs.opening.open_shares.Given as goal

abbrev pub invariant-loop-i : goal.invariant-loop-i
invariant-loop-i l = let c = l.certificate in
    l.all ≡ all_below l.i (λ i. opens_share (queue_at c i) (party_of (queue_at c i) l.hart) (start_at c i) (get_or l.shares i no_share) l.numbers)
