use Rattle.std.proofs.Common.{◌≡◌, length}
use Rattle.step_machine.specs.Positions.{AreOfOneOpening}
use Rattle.surveys.proofs.tables.Tables.put.Given as goal

abbrev pub invariant-loop-hart : goal.invariant-loop-hart
invariant-loop-hart g l = record {
  opening : AreOfOneOpening l.self.opening l.machine;
  harts : length l.machine.harts ≡ length l.fn.machine.harts;
}
