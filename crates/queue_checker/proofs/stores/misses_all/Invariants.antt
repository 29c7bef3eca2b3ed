use Rattle.std.proofs.Common.{◌≡◌}
use Rattle.slot_queue.specs.Ownership.{party_of}
use Rattle.queue_certificates.specs.{queue_at, all_below, misses}
use Rattle.queue_checker.proofs.stores.misses_all.Given as goal

abbrev pub invariant-loop-i : goal.invariant-loop-i
invariant-loop-i l = let c = l.certificate in l.all ≡ all_below l.i (λ i. misses (queue_at c i) (party_of (queue_at c i) l.hart) l.bounds l.width)
