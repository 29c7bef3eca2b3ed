use Rattle.std.proofs.Common.{ℕ, ◌≡◌, ◌&&◌, take}
use Rattle.records_written.specs.PartyLeaves.{has_mark, marks_of, is_left}
use Rattle.records_written.proofs.searching.Search.follow_targets.Given as goal

abbrev pub invariant-loop-to : goal.invariant-loop-to
invariant-loop-to l = (m d b : ℕ) → marks_of l.self.marks.items m d b
    ≡ (marks_of l.initial.self.marks.items m d b && is_left (take l.to-index l.targets) (has_mark l.left d b) m)
