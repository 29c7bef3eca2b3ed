use Rattle.std.proofs.Common.{ℕ, ◌≡◌, ◌||◌, not, true, take}
use Rattle.std.specs.List.{list_all}
use Rattle.records_written.specs.PartyLeaves.{marks_byte, marks_of}
use Rattle.records_written.proofs.keeping.targets_keep.Given as goal

abbrev pub invariant-loop-to : goal.invariant-loop-to
invariant-loop-to l =
    l.all_keep ≡ true → (d b : ℕ) → list_all (λ to. not (marks_of l.all to d b) || marks_byte l.left d b) (take l.to-index l.targets) ≡ true
