use Rattle.std.proofs.Common.{◌≡◌, ◌++◌, take}
use Rattle.std.specs.Prelude.{All}
use Rattle.std.specs.List.{flat_map}
use Rattle.step_machine.specs.Positions.{packed_hart, IsSoundHart}
use Rattle.step_machine.proofs.machine_state.packing.push_harts.Given as goal

abbrev pub invariant-loop-hart : goal.invariant-loop-hart
invariant-loop-hart l = record {
  words : l.out.items ≡ l.fn.out.items ++ flat_map packed_hart (take l.hart-index l.harts);
  sound : All IsSoundHart (take l.hart-index l.harts);
}
