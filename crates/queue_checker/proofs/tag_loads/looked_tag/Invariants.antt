use Rattle.std.proofs.Common.{◌≡◌, length}
use Rattle.std.specs.Prelude.{is_some}
use Rattle.queue_certificates.specs.{last_below, tag_at, tagged_at}
use Rattle.queue_checker.proofs.tag_loads.looked_tag.Given as goal

abbrev pub invariant-loop-t : goal.invariant-loop-t
invariant-loop-t l = let c = l.certificate in
    l.last ≡ last_below l.t (λ t. is_some (tag_at (tagged_at c) (length c.tagged) (length c.queues) l.hart
    l.state l.target.place l.target.width t))
