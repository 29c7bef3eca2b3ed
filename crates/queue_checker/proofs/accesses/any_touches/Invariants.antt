use Rattle.std.proofs.Common.{◌≡◌}
use Rattle.queue_checker.specs.Accesses.{any_below, touches_at}
use Rattle.queue_checker.proofs.accesses.any_touches.Given as goal

abbrev pub invariant-loop-n : goal.invariant-loop-n
invariant-loop-n l = let a = l.accessing in
    l.any ≡ any_below l.n (touches_at a.opening.now a.certificate.now a.queue a.stores a.hart l.pc)
