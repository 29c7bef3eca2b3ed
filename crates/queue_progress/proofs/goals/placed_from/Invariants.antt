use Rattle.std.proofs.Common.{◌≡◌, length}
use Rattle.queue_progress.specs.Progress.{placed_from}
use Rattle.queue_progress.proofs.goals.placed_from.Given as goal

abbrev pub invariant-loop-goals : goal.invariant-loop-goals
invariant-loop-goals l = placed_from l.wanted l.place l.goals ≡ placed_from l.wanted 0 l.initial.goals

abbrev pub decreases-loop-goals : goal.decreases-loop-goals
decreases-loop-goals l = length l.goals
