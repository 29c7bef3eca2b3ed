use Rattle.std.proofs.Common.{ℕ, ◌<◌, None}
use Rattle.records_written.specs.PartyLeaves.{marks_of, IsOpenAt}
use Rattle.records_written.proofs.finding.first_unmarked.Given as goal

abbrev pub invariant-loop-n : goal.invariant-loop-n
invariant-loop-n l = (m : ℕ) → m < l.n → IsOpenAt l.graph l.mask (marks_of l.all) m None
