use Rattle.std.proofs.Common.{◌≡◌, length}
use Rattle.queue_certificates.specs.{all_below, party_in, may_tell, tagged_at}
use Rattle.queue_checker.proofs.tag_stores.may_store_all.Given as goal

abbrev pub invariant-loop-t : goal.invariant-loop-t
invariant-loop-t l = let c = l.site.certificate.now in
    l.all ≡ all_below l.t (λ t. may_tell (tagged_at c) (length c.queues) l.site.state.now
    (party_in (tagged_at c t) l.site.hart) l.stored l.target.place l.target.bounds l.target.width l.moves t)
