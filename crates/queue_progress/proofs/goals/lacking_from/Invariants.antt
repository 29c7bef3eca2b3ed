use Rattle.std.proofs.Common.{◌≡◌, length}
use Rattle.queue_progress.specs.Progress.{lacking_from}
use Rattle.queue_progress.proofs.goals.lacking_from.Given as goal

abbrev pub invariant-loop-sets : goal.invariant-loop-sets
invariant-loop-sets l = lacking_from l.place l.sets l.lacks ≡ lacking_from l.initial.place l.initial.sets l.lacks

abbrev pub decreases-loop-sets : goal.decreases-loop-sets
decreases-loop-sets l = length l.sets
