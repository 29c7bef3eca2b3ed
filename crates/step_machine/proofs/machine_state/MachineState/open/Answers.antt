use Rattle.std.proofs.Common.{refl}
use Rattle.step_machine.proofs.Standings.{sound_held}
use Rattle.step_machine.proofs.machine_state.MachineState.open.Goals as goal

pub returns : goal.returns
returns g c = sound_held g.row.B g.row.M c.args.opening.now _ c.in_ok-machine_state.machine_state c.requires.fits refl c.in_ok-machine_state.ensures
