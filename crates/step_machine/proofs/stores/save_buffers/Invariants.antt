use Rattle.std.proofs.Common.{◌≡◌, take}
use Rattle.step_machine.proofs.stores.save_buffers.Given as goal

abbrev pub invariant-loop-buffer : goal.invariant-loop-buffer
invariant-loop-buffer g l = l.saved.items ≡ take l.buffer-index l.buffers
