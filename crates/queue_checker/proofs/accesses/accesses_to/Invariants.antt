use Rattle.std.proofs.Common.{◌≡◌}
use Rattle.queue_checker.specs.Accesses.{accesses_below}
use Rattle.queue_checker.proofs.accesses.accesses_to.Given as goal

abbrev pub invariant-loop-hart : goal.invariant-loop-hart
invariant-loop-hart l = l.out.items ≡ accesses_below l.opening l.certificate l.queue l.hart
