use Rattle.std.proofs.Common.{◌≡◌, length}
use Rattle.std.specs.Prelude.{◌&&◌, ◌||◌, nat_lt}
use Rattle.slot_queue.specs.Ownership.{party_of}
use Rattle.queue_certificates.specs.{queue_at, all_below, is_just, misses}
use Rattle.queue_checker.proofs.loads.may_load.Given as goal

abbrev pub invariant-loop-i : goal.invariant-loop-i
invariant-loop-i l = let c = l.certificate in
    l.all ≡ all_below l.i (λ i. (is_just l.look i && nat_lt i (length l.state.shares)) || misses (queue_at c i)
    (party_of (queue_at c i) l.hart) l.bounds l.width)
