use Rattle.std.proofs.Common.{◌≡◌, true}
use Rattle.poll_close.specs.Plans.{all_closed}
use Rattle.poll_close.proofs.plans.are_closed.Given as goal

abbrev pub invariant-loop-sender : goal.invariant-loop-sender
invariant-loop-sender l = all_closed l.reports l.sender ≡ true
