use Rattle.std.proofs.Common.{ℕ, ◌≡◌, ◌==◌, ◌&&◌, take}
use Rattle.record_bytes.specs.Ranges.{has_byte}
use Rattle.records_written.specs.PartyLeaves.{has_mark}
use Rattle.records_written.proofs.finding.asked_at.Given as goal

abbrev pub invariant-loop-range : goal.invariant-loop-range
invariant-loop-range l = (d b : ℕ) → has_mark l.asked.items d b ≡ ((l.position == d) && has_byte (take l.range-index l.mask) b)
