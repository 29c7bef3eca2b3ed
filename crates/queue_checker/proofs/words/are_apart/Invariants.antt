use Rattle.std.proofs.Common.{◌≡◌}
use Rattle.queue_certificates.specs.{own_at, all_below, is_apart}
use Rattle.queue_checker.proofs.words.are_apart.Given as goal

abbrev pub invariant-loop-j : goal.invariant-loop-j
invariant-loop-j l = l.all ≡ all_below l.j (λ j. is_apart l.bounds l.width (own_at l.own j).at (own_at l.own j).width)
