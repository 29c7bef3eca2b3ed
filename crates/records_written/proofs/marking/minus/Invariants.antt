use Rattle.std.proofs.Common.{ℕ, ◌≡◌, ◌&&◌, not, take}
use Rattle.records_written.specs.PartyLeaves.{has_mark}
use Rattle.records_written.proofs.marking.minus.Given as goal

abbrev pub invariant-loop-cut : goal.invariant-loop-cut
invariant-loop-cut l = (d b : ℕ) → has_mark l.left.items d b ≡ (has_mark l.marks d b && not (has_mark (take l.cut-index l.others) d b))
