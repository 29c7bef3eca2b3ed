use Rattle.std.proofs.Common.{ℕ}
use Rattle.records_written.specs.PartyLeaves.{AreClosed, IsUnder}
use Rattle.records_written.proofs.once.Closing.settle.Given as goal

abbrev pub invariant-loop : goal.invariant-loop
invariant-loop l = (f : ℕ → ℕ) → AreClosed l.graph l.byte f → IsUnder l.initial.self.closed.items f → IsUnder l.self.closed.items f
