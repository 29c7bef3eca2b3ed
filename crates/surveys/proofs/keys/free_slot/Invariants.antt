use Rattle.std.proofs.Common.{◌<◌, length}
use Rattle.surveys.proofs.keys.free_slot.Given as goal

abbrev pub invariant-loop : goal.invariant-loop
invariant-loop l = 0 < length l.slots → l.at < length l.slots
