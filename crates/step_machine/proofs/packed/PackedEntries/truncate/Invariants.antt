use Rattle.std.proofs.Common.{◌≡◌, take, length}
use Rattle.step_machine.proofs.packed.PackedEntries.truncate.Given as goal

abbrev pub invariant-loop-self : goal.invariant-loop-self
invariant-loop-self l = record {
  entries : take l.n l.self.entries ≡ take l.n l.fn.self.entries;
  room : l.self.room ≡ l.fn.self.room;
}

abbrev pub decreases-loop-self : goal.decreases-loop-self
decreases-loop-self l = length l.self.entries
