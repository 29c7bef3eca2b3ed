use Rattle.std.proofs.Common.{take}
use Rattle.step_machine.specs.Standing.{RunsBy}
use Rattle.step_machine.proofs.machine_state.MachineState.run.Given as goal

abbrev pub invariant-loop-done : goal.invariant-loop-done
invariant-loop-done g l = RunsBy g.row.B g.row.M (take l.done l.events) l.fn.self l.self
