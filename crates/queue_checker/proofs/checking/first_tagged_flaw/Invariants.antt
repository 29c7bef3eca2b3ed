use Rattle.std.proofs.Common.{◌≡◌}
use Rattle.queue_checker.specs.Flaws.{flaw_of_tagged, first_below}
use Rattle.queue_checker.proofs.checking.first_tagged_flaw.Given as goal

abbrev pub invariant-loop-t : goal.invariant-loop-t
invariant-loop-t l = l.first ≡ first_below l.t (flaw_of_tagged l.opening l.certificate)
