use Rattle.std.proofs.Common.{ℕ}
use Rattle.records_written.specs.PartyLeaves.{AreMost}
use Rattle.records_written.proofs.searching.Search.settle.Given as goal

abbrev pub invariant-loop : goal.invariant-loop
invariant-loop l = (first : ℕ) → AreMost l.graph first l.initial.self.marks.items → AreMost l.graph first l.self.marks.items
