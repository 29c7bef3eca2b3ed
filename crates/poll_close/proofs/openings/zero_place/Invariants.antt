use Rattle.std.proofs.Common.{take}
use Rattle.poll_close.specs.Laws.{AreWords}
use Rattle.poll_close.proofs.openings.zero_place.Given as goal

abbrev pub invariant-loop-place : goal.invariant-loop-place
invariant-loop-place l = AreWords (take l.place l.list)
