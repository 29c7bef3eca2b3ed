use Rattle.std.proofs.Common.{◌≡◌, ◌&&◌}
use Rattle.queue_checker.specs.Accesses.{any_below}
use Rattle.queue_certificates.specs.Steps.{instruction_at}
use Rattle.queue_progress.specs.Harts.{differs_at, is_among, is_side}
use Rattle.queue_progress.proofs.harts.differs.Given as goal

abbrev pub invariant-loop-i : goal.invariant-loop-i
invariant-loop-i l =
    l.some ≡ any_below l.i (λ i. is_side l.certificate l.waiting.hart i && differs_at l.certificate l.waiting.hart l.waiting.owned i
    (is_among l.waiting.lacks.now i) l.state (instruction_at l.waiting.code.now l.state.pc))
