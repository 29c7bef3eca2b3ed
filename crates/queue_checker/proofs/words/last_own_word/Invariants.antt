use Rattle.std.proofs.Common.{◌≡◌}
use Rattle.std.specs.Prelude.{◌&&◌, ◌==◌}
use Rattle.queue_certificates.specs.{own_at, last_below, is_one}
use Rattle.queue_checker.proofs.words.last_own_word.Given as goal

abbrev pub invariant-loop-i : goal.invariant-loop-i
invariant-loop-i l = l.last ≡ last_below l.i (λ j. is_one l.bounds && (l.bounds.low == (own_at l.own j).at) && (l.width == (own_at l.own j).width))
