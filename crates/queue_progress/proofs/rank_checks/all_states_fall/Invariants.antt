use Rattle.std.proofs.Common.{◌≡◌}
use Rattle.queue_certificates.specs.{all_below, state_at}
use Rattle.queue_progress.specs.Falling.{each_ranked, leaf_falls, rank_at}
use Rattle.queue_progress.proofs.rank_checks.all_states_fall.Given as goal

abbrev pub invariant-loop-n : goal.invariant-loop-n
invariant-loop-n g l = l.all ≡ all_below l.n (λ n.
    each_ranked (leaf_falls l.of.certificate.now l.of.hart l.of.code.now (g.K.Kind.other l.kind) (g.K.Kind.cut l.kind) l.ranks)
    (rank_at l.ranks n) (state_at l.of.certificate.now l.of.hart n).known (state_at l.of.certificate.now l.of.hart n).cases)
