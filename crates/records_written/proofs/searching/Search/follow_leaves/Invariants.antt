use Rattle.std.proofs.Common.{ℕ, ◌≡◌, ◌&&◌, take}
use Rattle.records_written.specs.PartyLeaves.{marks_byte, marks_of, are_left}
use Rattle.records_written.proofs.searching.Search.follow_leaves.Given as goal

abbrev pub invariant-loop-leaf : goal.invariant-loop-leaf
invariant-loop-leaf l = (m d b : ℕ) → marks_of l.self.marks.items m d b
    ≡ (marks_of l.initial.self.marks.items m d b && are_left (take l.leaf-index l.leaves) (marks_byte l.own) m d b)
