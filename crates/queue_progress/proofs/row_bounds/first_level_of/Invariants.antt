use Rattle.std.proofs.Common.{◌≡◌, ◌&&◌}
use Rattle.std.specs.Option.{is_some}
use Rattle.queue_certificates.specs.{state_at}
use Rattle.queue_checker.specs.Flaws.{first_below, unless}
use Rattle.queue_progress.specs.Falling.{each_ranked, leaf_falls, most_rank, rank_at}
use Rattle.queue_progress.proofs.row_bounds.first_level_of.Given as goal

abbrev pub invariant-loop-n : goal.invariant-loop-n
invariant-loop-n g l = l.first ≡ first_below l.n (λ n. unless
    (each_ranked (leaf_falls l.of.certificate.now l.of.hart l.of.code.now (g.K.Kind.other l.kind) (g.K.Kind.cut l.kind) l.ranks)
    (rank_at l.ranks n) (state_at l.of.certificate.now l.of.hart n).known (state_at l.of.certificate.now l.of.hart n).cases
    && is_some (most_rank l.of.certificate.now l.of.hart l.ranks n)) n)
