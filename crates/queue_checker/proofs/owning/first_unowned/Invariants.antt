use Rattle.std.proofs.Common.{◌≡◌}
use Rattle.queue_checker.specs.Flaws.{loads_hold, first_below, unless}
use Rattle.queue_checker.proofs.owning.first_unowned.Given as goal

abbrev pub invariant-loop-n : goal.invariant-loop-n
invariant-loop-n l = l.first ≡ first_below l.n (λ n. unless (loads_hold l.opening l.certificate l.queue l.hart n) n)
