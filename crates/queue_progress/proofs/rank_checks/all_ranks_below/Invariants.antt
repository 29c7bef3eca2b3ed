use Rattle.std.proofs.Common.{◌≡◌}
use Rattle.queue_certificates.specs.{all_below, state_at, number}
use Rattle.queue_progress.specs.Falling.{is_less, rank_at}
use Rattle.queue_progress.proofs.rank_checks.all_ranks_below.Given as goal

abbrev pub invariant-loop-n : goal.invariant-loop-n
invariant-loop-n l = l.all ≡ all_below l.n (λ n. is_less (state_at l.of.certificate.now l.of.hart n).known.ranges (rank_at l.ranks n) (number l.most))
