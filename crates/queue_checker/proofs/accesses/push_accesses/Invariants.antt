use Rattle.std.proofs.Common.{◌≡◌, ◌++◌}
use Rattle.queue_checker.specs.Accesses.{accesses_of}
use Rattle.queue_checker.proofs.accesses.push_accesses.Given as goal

abbrev pub invariant-loop-n : goal.invariant-loop-n
invariant-loop-n l = l.out.items ≡ l.initial.out.items ++ accesses_of l.opening l.certificate l.queue l.hart l.n
