use Rattle.std.proofs.Common.{◌≡◌, length}
use Rattle.queue_certificates.specs.{last_below, is_just, tag_at, tagged_at}
use Rattle.queue_checker.proofs.tag_stores.moved_tag.Given as goal

abbrev pub invariant-loop-t : goal.invariant-loop-t
invariant-loop-t l = let c = l.certificate in
    l.last ≡ last_below l.t (λ t. is_just (tag_at (tagged_at c) (length c.tagged) (length c.queues) l.hart
    l.state l.target.place l.target.width t) 0)
