use Rattle.std.proofs.Common.{◌≡◌, ◌||◌, not}
use Rattle.std.specs.Prelude.{nat_lt}
use Rattle.queue_certificates.specs.{all_below, queue_at}
use Rattle.queue_progress.specs.Harts.{is_side}
use Rattle.queue_progress.proofs.harts.is_few.Given as goal

abbrev pub invariant-loop-i : goal.invariant-loop-i
invariant-loop-i l = l.few ≡ all_below l.i (λ i. not (is_side l.certificate l.hart i) || nat_lt l.owned (queue_at l.certificate i).capacity)
