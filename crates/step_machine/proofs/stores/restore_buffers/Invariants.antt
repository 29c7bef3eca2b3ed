use Rattle.std.proofs.Common.{◌≡◌, take}
use Rattle.step_machine.specs.inner.Restored.{changed_by}
use Rattle.step_machine.proofs.stores.restore_buffers.Given as goal

abbrev pub invariant-loop-index : goal.invariant-loop-index
invariant-loop-index g l = l.buffers ≡ changed_by (λ old new. new) l.fn.buffers (take l.index l.saved)
