use Rattle.std.proofs.Common.{ℕ, ◌≡◌, ◌||◌, not, true, take}
use Rattle.std.specs.List.{list_all}
use Rattle.records_written.specs.{marked_after, marks_byte, marks_of}
use Rattle.records_written.proofs.keeping.leaves_keep.Given as goal

abbrev pub invariant-loop-leaf : goal.invariant-loop-leaf
invariant-loop-leaf l = l.all_keep ≡ true → (d b : ℕ) → list_all (λ s. list_all (λ to. not (marks_of l.all to d b)
    || marked_after s.effect (marks_byte l.own) d b) s.targets) (take l.leaf-index l.leaves) ≡ true
