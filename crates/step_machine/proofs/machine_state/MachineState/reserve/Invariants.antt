use Rattle.std.proofs.Common.{◌≡◌, ℕ, length}
use Rattle.step_machine.specs.inner.Config.{SameButRoom, AllHaveRoom}
use Rattle.step_machine.proofs.Rooms.{RoomBelow}
use Rattle.step_machine.proofs.machine_state.MachineState.reserve.Given as goal

abbrev pub invariant-loop-index : goal.invariant-loop-index
invariant-loop-index g l = record {
  below : RoomBelow l.index l.n l.self.harts;
  more : (r : ℕ) → AllHaveRoom r l.fn.self.harts → AllHaveRoom r l.self.harts;
  same : SameButRoom l.fn.self l.self;
  count : length l.self.harts ≡ l.index-end;
}
