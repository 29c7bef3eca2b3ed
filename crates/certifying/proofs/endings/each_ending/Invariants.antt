use Rattle.std.proofs.Common.{◌≡◌}
use Rattle.certifying.specs.Endings.{endings_below}
use Rattle.certifying.proofs.endings.each_ending.Given as goal

abbrev pub invariant-loop-place : goal.invariant-loop-place
invariant-loop-place l = l.all.items ≡ endings_below l.words l.opening l.certificate l.place
