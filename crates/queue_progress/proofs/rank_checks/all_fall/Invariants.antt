use Rattle.std.proofs.Common.{◌≡◌, length}
use Rattle.queue_progress.specs.Falling.{all_fall}
use Rattle.queue_progress.proofs.rank_checks.all_fall.Given as goal

abbrev pub invariant-states : goal.invariant-states
invariant-states l = all_fall l.ranks l.rank l.states l.arrows ≡ all_fall l.ranks l.rank l.initial.states l.initial.arrows

abbrev pub decreases-states : goal.decreases-states
decreases-states l = length l.states
