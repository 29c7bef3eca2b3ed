use Rattle.std.proofs.Common.{◌≡◌, get_or}
use Rattle.std.specs.Prelude.{slice_index, slice_set}
use Rattle.queue_certificates.specs.{any, all_below, is_value}
use Rattle.known_values.specs.Queues.{queue_in}
use Rattle.queue_checker.proofs.opening.are_registers.Given as goal

abbrev pub invariant-loop-j : goal.invariant-loop-j
invariant-loop-j l = l.all ≡ all_below l.j (λ j. is_value (queue_in l.queues) l.numbers (get_or l.values j any) (slice_index (slice_set l.registers 0 0) j))
