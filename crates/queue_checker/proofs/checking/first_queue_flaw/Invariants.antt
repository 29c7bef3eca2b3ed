use Rattle.std.proofs.Common.{◌≡◌}
use Rattle.queue_checker.specs.Flaws.{flaw_of_queue, first_below}
use Rattle.queue_checker.proofs.checking.first_queue_flaw.Given as goal

abbrev pub invariant-loop-i : goal.invariant-loop-i
invariant-loop-i l = l.first ≡ first_below l.i (flaw_of_queue l.opening l.certificate)
