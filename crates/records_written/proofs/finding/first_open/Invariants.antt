use Rattle.std.proofs.Common.{ℕ, ◌≡◌, ◌<◌, false}
use Rattle.records_written.specs.PartyLeaves.{has_mark, is_open}
use Rattle.records_written.proofs.finding.first_open.Given as goal

abbrev pub invariant-loop-position : goal.invariant-loop-position
invariant-loop-position l = (d : ℕ) → d < l.position → (b : ℕ) → is_open l.mask (has_mark l.own) d b ≡ false
