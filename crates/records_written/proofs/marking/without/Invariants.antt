use Rattle.std.proofs.Common.{ℕ, ◌≡◌, ◌&&◌, not, take}
use Rattle.records_written.specs.PartyLeaves.{is_mark, has_mark}
use Rattle.records_written.proofs.marking.without.Given as goal

abbrev pub invariant-loop-mark : goal.invariant-loop-mark
invariant-loop-mark l = (d b : ℕ) → has_mark l.left.items d b ≡ (has_mark (take l.mark-index l.marks) d b && not (is_mark l.cut d b))
