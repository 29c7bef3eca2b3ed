use Rattle.std.proofs.Common.{◌≡◌, ◌+◌, length, take}
use Rattle.std.specs.Prelude.{map}
use Rattle.queue_certificates.specs.{share_at, with_share, handed}
use Rattle.queue_checker.proofs.tag_stores.handed_states.Given as goal

abbrev pub invariant-loop-next : goal.invariant-loop-next
invariant-loop-next l = let place = length l.certificate.queues + l.t in
    l.out.items ≡ map (with_share place (handed (share_at l.state place))) (take l.next-index l.states)
