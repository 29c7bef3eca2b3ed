use Rattle.std.proofs.Common.{◌≡◌}
use Rattle.queue_progress.specs.Falling.{greatest_below, most_rank, option_or_zero}
use Rattle.queue_progress.proofs.row_bounds.bound_of.Given as goal

abbrev pub invariant-loop-n : goal.invariant-loop-n
invariant-loop-n l = l.greatest ≡ greatest_below l.n (λ n. option_or_zero (most_rank l.certificate l.hart l.ranks n))
