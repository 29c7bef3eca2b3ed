use Rattle.std.proofs.Common.{◌≡◌}
use Rattle.queue_progress.specs.Harts.{fewest_owned}
use Rattle.queue_progress.proofs.harts.fewest_owned.Given as goal

abbrev pub invariant-loop-i : goal.invariant-loop-i
invariant-loop-i l = l.fewest ≡ fewest_owned l.certificate l.hart l.i l.state
