use Rattle.std.proofs.Common.{take, map, All}
use Rattle.poll_close.specs.Laws.{AreWords}
use Rattle.poll_close.proofs.openings.zero_word.Given as goal

abbrev pub invariant-loop-sender : goal.invariant-loop-sender
invariant-loop-sender l = All AreWords (map (λ v. v.items) (take l.sender l.lists))
