use Rattle.std.proofs.Common.{ℕ, ◌≡◌, true, take}
use Rattle.records_written.specs.PartyLeaves.{has_mark}
use Rattle.records_written.proofs.marking.are_same.Given as goal

abbrev pub invariant-loop-i : goal.invariant-loop-i
invariant-loop-i l = (d b : ℕ) → has_mark (take l.i l.marks) d b ≡ true → has_mark l.others d b ≡ true
