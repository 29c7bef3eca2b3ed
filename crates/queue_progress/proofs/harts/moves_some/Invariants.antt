use Rattle.std.proofs.Common.{◌≡◌, ◌&&◌}
use Rattle.queue_checker.specs.Accesses.{any_below}
use Rattle.queue_progress.specs.{moves, is_side}
use Rattle.queue_progress.proofs.harts.moves_some.Given as goal

abbrev pub invariant-loop-i : goal.invariant-loop-i
invariant-loop-i l = l.some ≡ any_below l.i (λ i.
    is_side l.certificate l.waiting.hart i && moves l.certificate l.waiting.hart l.waiting.code.now i l.state l.handed)
