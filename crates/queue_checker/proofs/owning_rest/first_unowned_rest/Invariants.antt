use Rattle.std.proofs.Common.{◌≡◌}
use Rattle.queue_checker.specs.Flaws.{rest_holds, first_below, unless}
use Rattle.queue_checker.proofs.owning_rest.first_unowned_rest.Given as goal

abbrev pub invariant-loop-n : goal.invariant-loop-n
invariant-loop-n l = l.first ≡ first_below l.n (λ n. unless (rest_holds l.opening l.certificate l.tagged l.hart n) n)
