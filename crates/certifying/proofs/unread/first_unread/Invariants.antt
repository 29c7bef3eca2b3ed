use Rattle.std.proofs.Common.{◌≡◌}
use Rattle.queue_checker.specs.Flaws.{first_below}
use Rattle.certifying.specs.Unread.{unread_of}
use Rattle.certifying.proofs.unread.first_unread.Given as goal

abbrev pub invariant-loop-index : goal.invariant-loop-index
invariant-loop-index l = l.first ≡ first_below l.index (unread_of l.opening l.certificate)
