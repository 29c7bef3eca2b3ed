use Rattle.std.proofs.Common.{ℕ, ◌≡◌, ◌<◌, true, [], get_or}
use Rattle.std.specs.List.{list_all}
use Rattle.records_written.specs.{leads_closed}
use Rattle.records_written.proofs.once.all_closed.Given as goal

abbrev pub invariant-loop-n : goal.invariant-loop-n
invariant-loop-n l = (m : ℕ) → m < l.n → list_all (leads_closed (λ k. get_or l.closed k 0) m l.byte) (get_or l.graph m []) ≡ true
