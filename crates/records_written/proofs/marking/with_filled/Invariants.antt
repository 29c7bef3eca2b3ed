use Rattle.std.proofs.Common.{ℕ, ◌≡◌, ◌||◌, take}
use Rattle.records_written.specs.PartyLeaves.{is_filled}
use Rattle.records_written.specs.PartyLeaves.{is_mark, has_mark}
use Rattle.records_written.proofs.marking.with_filled.Given as goal

abbrev pub invariant-loop-mark : goal.invariant-loop-mark
invariant-loop-mark l = (d b : ℕ) → (is_mark l.filled d b || has_mark l.left.items d b)
    ≡ (is_filled l.position l.offset l.width d b || has_mark (take l.mark-index l.marks) d b)
