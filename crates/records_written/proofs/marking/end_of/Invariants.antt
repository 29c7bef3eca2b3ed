use Rattle.std.proofs.Common.{ℕ, ◌≡◌, ◌≤◌, false, take}
use Rattle.records_written.specs.PartyLeaves.{has_mark}
use Rattle.records_written.proofs.marking.end_of.Given as goal

abbrev pub invariant-loop-mark : goal.invariant-loop-mark
invariant-loop-mark l = (d b : ℕ) → l.end ≤ d → has_mark (take l.mark-index l.marks) d b ≡ false
