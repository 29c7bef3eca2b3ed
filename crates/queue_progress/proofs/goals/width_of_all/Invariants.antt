use Rattle.std.proofs.Common.{◌≡◌, length}
use Rattle.queue_progress.specs.Progress.{width_from}
use Rattle.queue_progress.proofs.goals.width_of_all.Given as goal

abbrev pub invariant-loop-goals : goal.invariant-loop-goals
invariant-loop-goals l = width_from l.width l.goals ≡ width_from 0 l.initial.goals

abbrev pub decreases-loop-goals : goal.decreases-loop-goals
decreases-loop-goals l = length l.goals
