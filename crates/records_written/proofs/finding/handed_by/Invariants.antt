use Rattle.std.proofs.Common.{ℕ, ◌≡◌, take}
use Rattle.std.specs.Prelude.{nat_lt}
use Rattle.records_written.specs.PartyLeaves.{may_hand_on}
use Rattle.records_written.proofs.finding.handed_by.Given as goal

abbrev pub invariant-loop-leaf : goal.invariant-loop-leaf
invariant-loop-leaf l = (d : ℕ) → may_hand_on (take l.leaf-index l.state) d ≡ nat_lt d l.most
