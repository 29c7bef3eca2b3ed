use Rattle.std.proofs.Common.{◌≡◌, ◌^◌}
use Rattle.known_values.proofs.queues.words_of.Given as goal

abbrev pub invariant-loop-i : goal.invariant-loop-i
invariant-loop-i l = l.count ≡ 256 ^ l.i
