-- What the opening gives is sound.
use Rattle.std.proofs.Common.{arith}
use Rattle.step_machine.proofs.Standings.{sound_held}
use Rattle.step_machine.proofs.machine.Machine.open.Goals as goal

pub invariant_of-result : goal.invariant_of-result
invariant_of-result g c = (
  sound_held g.row.B g.row.M c.args.opening c.new.result.entries c.in_ok-machine_state.machine_state
      c.requires.fits c.new.ensures.entries c.in_ok-machine_state.ensures,
  omega arith,
)
