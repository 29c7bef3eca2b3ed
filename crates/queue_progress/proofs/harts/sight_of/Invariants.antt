use Rattle.std.proofs.Common.{◌≡◌, ◌+◌}
use Rattle.queue_progress.specs.Falling.{bound_of, greatest_below}
use Rattle.queue_progress.specs.Progress.{goals_width, ranks_at}
use Rattle.queue_progress.proofs.harts.sight_of.Given as goal

abbrev pub invariant-loop-j : goal.invariant-loop-j
invariant-loop-j l =
    l.greatest ≡ greatest_below l.j (λ j. bound_of l.certificate l.hart (ranks_at l.certificate l.hart (goals_width l.certificate l.hart + j)))
