use Rattle.std.proofs.Common.{ℕ, ◌≡◌, ◌<◌, ◌==◌, not, length}
use Rattle.records_written.specs.PartyLeaves.{marks_of}
use Rattle.records_written.proofs.searching.opened.Given as goal

abbrev pub invariant-loop-n : goal.invariant-loop-n
invariant-loop-n l = (length l.all.items ≡ l.n) × ((m d b : ℕ) → m < l.n → marks_of l.all.items m d b ≡ not (m == l.first))
