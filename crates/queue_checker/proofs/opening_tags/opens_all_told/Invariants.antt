use Rattle.std.proofs.Common.{◌≡◌, ◌+◌, length, get_or}
use Rattle.queue_certificates.specs.{no_share, all_below, party_in, tagged_at, tagged_start, opens_told}
use Rattle.queue_checker.proofs.opening_tags.opens_all_told.Given as goal

abbrev pub invariant-loop-t : goal.invariant-loop-t
invariant-loop-t l = let c = l.certificate in
    l.all ≡ all_below l.t (λ t. opens_told (tagged_at c t) (party_in (tagged_at c t) l.hart) (tagged_start c t)
    (get_or l.shares (length c.queues + t) no_share) l.numbers)
