use Rattle.std.proofs.Common.{take}
use Rattle.std.specs.Prelude.{All}
use Rattle.hart.specs.Saved.{IsOfItsOpening}
use Rattle.step_machine.specs.Positions.{unpacked_harts}
use Rattle.step_machine.proofs.TakingLaws.{AreTaken}
use Rattle.step_machine.proofs.machine_state.packing.take_harts.Given as goal

abbrev pub invariant-loop-hart : goal.invariant-loop-hart
invariant-loop-hart l = record {
  taken : AreTaken unpacked_harts l.hart-index l.fn.harts l.harts l.words l.rest;
  own : All IsOfItsOpening (take l.hart-index l.harts);
}
