use Rattle.std.proofs.Common.{◌≡◌, ◌≤◌, ◌++◌, take, length, List}
use Rattle.std.specs.Prelude.{All}
use Rattle.std.specs.List.{flat_map}
use Rattle.memory.specs.declared.writes.Write.{Write}
use Rattle.step_machine.specs.Positions.{packed_buffer}
use Rattle.step_machine.proofs.stores.packing.push_buffers.Given as goal

abbrev pub invariant-loop-buffer : goal.invariant-loop-buffer
invariant-loop-buffer g l = record {
  words : l.out.items ≡ l.fn.out.items ++ flat_map packed_buffer (take l.buffer-index l.buffers);
  within : All (λ (ps : List Write). length ps ≤ g.row.B) (take l.buffer-index l.buffers);
}
