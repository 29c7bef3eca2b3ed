use Rattle.std.proofs.Common.{◌≡◌, ◌-◌}
use Rattle.step_machine.specs.Positions.{unpacked_changes}
use Rattle.step_machine.proofs.machine_state.packing.take_changes.Given as goal

abbrev pub invariant-loop : goal.invariant-loop
invariant-loop l = unpacked_changes l.count l.fn.registers l.words ≡ unpacked_changes (l.count - l.counter) l.registers l.rest
