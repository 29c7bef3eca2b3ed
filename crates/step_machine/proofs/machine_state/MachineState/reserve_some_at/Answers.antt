use Rattle.step_machine.proofs.Rooms.{same_whichever}
use Rattle.step_machine.proofs.machine_state.MachineState.reserve_some_at.Goals as goal

pub returns-else-has_room_at-clause-same : goal.returns-else-has_room_at-clause-same
returns-else-has_room_at-clause-same g c = same_whichever c.args.self.now c.reserve_at.new.self c.args.index 64
    c.reserve_at.result c.reserve_at.ensures.ok c.reserve_at.ensures.err
