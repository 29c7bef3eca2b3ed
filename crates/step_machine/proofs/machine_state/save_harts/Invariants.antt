use Rattle.std.proofs.Common.{take}
use Rattle.step_machine.specs.Snapshots.{AreSaved}
use Rattle.step_machine.proofs.machine_state.save_harts.Given as goal

abbrev pub invariant-loop-hart : goal.invariant-loop-hart
invariant-loop-hart l = AreSaved (take l.hart-index l.harts) l.saved.items
