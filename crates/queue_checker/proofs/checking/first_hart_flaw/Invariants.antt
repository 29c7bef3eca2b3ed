use Rattle.std.proofs.Common.{◌≡◌}
use Rattle.queue_checker.specs.Flaws.{hart_flaw, first_below}
use Rattle.queue_checker.proofs.checking.first_hart_flaw.Given as goal

abbrev pub invariant-loop-hart : goal.invariant-loop-hart
invariant-loop-hart l = l.first ≡ first_below l.hart (hart_flaw l.opening l.certificate)
