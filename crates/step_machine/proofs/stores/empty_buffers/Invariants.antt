use Rattle.std.proofs.Common.{◌≡◌, [], replicate}
use Rattle.step_machine.proofs.stores.empty_buffers.Given as goal

abbrev pub invariant-loop : goal.invariant-loop
invariant-loop g l = l.buffers.items ≡ replicate l.counter []
