use Rattle.std.proofs.Common.{◌≡◌}
use Rattle.queue_checker.specs.Flaws.{state_holds, first_below, unless}
use Rattle.queue_checker.specs.declared.flaws.Flaw.TheVariants.{State}
use Rattle.queue_checker.proofs.checking.first_state_flaw.Given as goal

abbrev pub invariant-loop-n : goal.invariant-loop-n
invariant-loop-n l = l.first ≡ first_below l.n (λ n. unless (state_holds l.opening l.certificate l.hart n) (State l.hart n))
