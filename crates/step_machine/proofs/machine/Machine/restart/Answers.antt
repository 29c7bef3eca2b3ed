-- A sound machine that is put back is sound.
use Rattle.std.proofs.Common.{arith}
use Rattle.step_machine.proofs.Restarts.{sound_put_back}
use Rattle.step_machine.proofs.machine.Machine.restart.Goals as goal

pub invariant_of-self : goal.invariant_of-self
invariant_of-self g c = (
  sound_put_back g.row.B g.row.M c.self.inside.room c.self.inside.opening c.self.inside.entries.entries
      c.clear.new.self.entries c.self.inside.machine_state c.put_back.new.self
      c.self.invariant.0 c.clear.ensures.entries c.put_back.ensures,
  omega arith,
)
