use Rattle.std.proofs.Common.{◌≡◌, take}
use Rattle.step_machine.specs.inner.Restored.{restored_harts}
use Rattle.step_machine.proofs.machine_state.restore_harts.Given as goal

abbrev pub invariant-loop-index : goal.invariant-loop-index
invariant-loop-index l = l.harts ≡ restored_harts l.fn.harts (take l.index l.saved)
