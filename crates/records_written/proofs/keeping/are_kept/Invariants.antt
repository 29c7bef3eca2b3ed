use Rattle.std.proofs.Common.{ℕ, ◌≡◌, ◌<◌, true, [], get_or}
use Rattle.std.specs.List.{list_all}
use Rattle.records_written.specs.{keeps, marks_of}
use Rattle.records_written.proofs.keeping.are_kept.Given as goal

abbrev pub invariant-loop-n : goal.invariant-loop-n
invariant-loop-n l = (m d b : ℕ) → m < l.n → list_all (keeps (marks_of l.all) m d b) (get_or l.graph m []) ≡ true
