use Rattle.std.proofs.Common.{ℕ, ◌≡◌, true}
use Rattle.std.specs.Prelude.{nat_le}
use Rattle.std.specs.List.{list_all}
use Rattle.records_written.specs.PartyLeaves.{IsUnder}
use Rattle.records_written.proofs.once.Closing.raise_all.Given as goal

abbrev pub invariant-loop-to : goal.invariant-loop-to
invariant-loop-to l = (f : ℕ → ℕ) → list_all (λ to. nat_le l.left (f to)) l.targets ≡ true → IsUnder l.initial.self.closed.items f
    → IsUnder l.self.closed.items f
