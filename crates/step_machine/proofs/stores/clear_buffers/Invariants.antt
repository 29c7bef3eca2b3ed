use Rattle.std.proofs.Common.{◌≡◌, ◌++◌, take, drop}
use Rattle.std.specs.Prelude.{map}
use Rattle.step_machine.specs.inner.Stored.{no_stores}
use Rattle.step_machine.proofs.stores.clear_buffers.Given as goal

abbrev pub invariant-loop-buffer : goal.invariant-loop-buffer
invariant-loop-buffer g l = l.buffers ≡ map no_stores (take l.buffer-index l.fn.buffers) ++ drop l.buffer-index l.fn.buffers
