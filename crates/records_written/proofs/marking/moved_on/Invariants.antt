use Rattle.std.proofs.Common.{ℕ, ◌≡◌, ◌+◌, take}
use Rattle.records_written.specs.PartyLeaves.{has_mark}
use Rattle.records_written.proofs.marking.moved_on.Given as goal

abbrev pub invariant-loop-mark : goal.invariant-loop-mark
invariant-loop-mark l = (d b : ℕ) → has_mark l.left.items d b ≡ has_mark (take l.mark-index l.marks) (d + l.handed) b
