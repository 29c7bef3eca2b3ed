use Rattle.std.proofs.Common.{ℕ, ◌≡◌, ◌<◌, false, [], get_or}
use Rattle.records_written.specs.{reads_again}
use Rattle.records_written.proofs.once.first_state.Given as goal

abbrev pub invariant-loop-n : goal.invariant-loop-n
invariant-loop-n l = (m : ℕ) → m < l.n → reads_again (get_or l.graph m []) l.byte (get_or l.closed m 0) ≡ false
