use Rattle.step_machine.specs.Positions.{unpacked_buffers}
use Rattle.step_machine.proofs.TakingLaws.{AreTaken}
use Rattle.step_machine.proofs.stores.packing.take_buffers.Given as goal

abbrev pub invariant-loop-buffer : goal.invariant-loop-buffer
invariant-loop-buffer g l = AreTaken (unpacked_buffers g.row.B g.row.M) l.buffer-index l.fn.buffers l.buffers l.words l.rest
