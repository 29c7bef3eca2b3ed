use Rattle.std.proofs.Common.{◌<◌, ◌≤◌, List, length, arith}
use Rattle.memory.specs.declared.writes.Write.{Write}
use Rattle.step_machine.specs.Positions.{packed_buffer}
use Rattle.step_machine.proofs.TakingLaws.{packed_more, all_more}
use Rattle.step_machine.proofs.stores.packing.push_buffers.Goals as goal

pub loop-buffer-preserved : goal.loop-buffer-preserved
loop-buffer-preserved g c =
    let within : c.loop-buffer.buffer-index < length c.args.buffers.now = omega (arith, c.loop-buffer-test.true) in
    record {
      words = packed_more packed_buffer c.args.buffers.now c.loop-buffer.buffer-index c.buffer-item.result c.args.out.now.items c.loop-buffer.out.items
          c.push_buffer.new.out.items within c.buffer-item.is c.loop-buffer.invariant.words c.in_ok-push_buffer.ensures.words;
      within = all_more (λ (ps : List Write). length ps ≤ g.row.B) c.args.buffers.now c.loop-buffer.buffer-index c.buffer-item.result within c.buffer-item.is
          c.loop-buffer.invariant.within c.in_ok-push_buffer.ensures.within;
    }
