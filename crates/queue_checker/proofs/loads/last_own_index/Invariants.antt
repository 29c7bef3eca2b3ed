use Rattle.std.proofs.Common.{◌≡◌}
use Rattle.queue_certificates.specs.{queue_at, last_below, is_own_index}
use Rattle.queue_checker.proofs.loads.last_own_index.Given as goal

abbrev pub invariant-loop-i : goal.invariant-loop-i
invariant-loop-i l = let c = l.certificate in
    l.last ≡ last_below l.i (is_own_index (queue_at c) l.hart l.bounds l.width)
