use Rattle.std.proofs.Common.{ℕ, ◌≡◌, true}
use Rattle.std.specs.Prelude.{nat_le}
use Rattle.std.specs.List.{list_all}
use Rattle.records_written.specs.{IsUnder, closed_by}
use Rattle.records_written.proofs.once.Closing.follow.Given as goal

abbrev pub invariant-loop-leaf : goal.invariant-loop-leaf
invariant-loop-leaf l = (f : ℕ → ℕ) → list_all (λ s. list_all (λ to. nat_le (closed_by s.all s.effect l.byte l.own) (f to)) s.targets) l.leaves ≡ true
    → IsUnder l.initial.self.closed.items f → IsUnder l.self.closed.items f
