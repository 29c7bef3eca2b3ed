use Rattle.std.proofs.Common.{◌≡◌}
use Rattle.queue_progress.specs.Harts.{sides}
use Rattle.queue_progress.proofs.harts.sides.Given as goal

abbrev pub invariant-loop-i : goal.invariant-loop-i
invariant-loop-i l = l.count ≡ sides l.certificate l.hart l.i
