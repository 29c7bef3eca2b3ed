use Rattle.std.proofs.Common.{refl, arith}
use Rattle.step_machine.specs.Positions.{unpacked_buffer, unpacked_buffers}
use Rattle.step_machine.proofs.TakingLaws.{taken_none, taken_more, taken_all}
use Rattle.step_machine.proofs.stores.packing.take_buffers.Goals as goal

pub loop-buffer-init : goal.loop-buffer-init
loop-buffer-init g c = taken_none (unpacked_buffers g.row.B g.row.M) c.args.buffers.now c.args.words.now

pub loop-buffer-preserved : goal.loop-buffer-preserved
loop-buffer-preserved g c =
    taken_more (unpacked_buffers g.row.B g.row.M) (λ b ws. unpacked_buffer g.row.B g.row.M ws) c.args.buffers.now
    c.loop-buffer.buffers (λ x xs ws. refl) c.loop-buffer.buffer-index
    c.buffer-item.result c.take_buffer-rest.new.buffer c.args.words.now c.loop-buffer.rest.now
    c.take_buffer-rest.result.now (omega arith) (omega arith) c.buffer-item.is
    c.take_buffer-rest.ensures.stores c.take_buffer-rest.ensures.rest c.loop-buffer.invariant

pub returns : goal.returns
returns g c =
    let all = taken_all (unpacked_buffers g.row.B g.row.M) (λ b ws. unpacked_buffer g.row.B g.row.M ws)
    c.args.buffers.now c.loop-buffer.buffers (λ ws. refl) c.loop-buffer.buffer-index c.args.words.now
    c.loop-buffer.rest.now (omega arith) (omega arith) c.loop-buffer.invariant in
    record { buffers = all.0; rest = all.1 }
