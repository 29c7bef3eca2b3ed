use Rattle.std.proofs.Common.{◌≡◌, ◌≤◌, length}
use Rattle.step_machine.specs.Positions.{changed}
use Rattle.step_machine.proofs.machine_state.packing.count_changed.Given as goal

abbrev pub invariant-loop-number : goal.invariant-loop-number
invariant-loop-number l = (l.count ≡ length (changed l.first l.now l.number)) × (l.count ≤ l.number)
