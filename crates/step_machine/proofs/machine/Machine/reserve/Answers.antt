-- Room is made, or made in part; the rest stays.
use Rattle.std.proofs.Common.{arith}
use Rattle.step_machine.proofs.Standings.{sound_moved}
use Rattle.step_machine.proofs.machine.Machine.reserve.Goals as goal

pub invariant_of-self-in_err-reserve-2 : goal.invariant_of-self-in_err-reserve-2
invariant_of-self-in_err-reserve-2 g c = (
  sound_moved g.row.B g.row.M c.self.inside.room c.self.inside.room c.self.inside.opening
      c.self.inside.entries.entries c.reserve.new.self.entries c.self.inside.machine_state
      c.reserve-then-self-n.new.self
      c.self.invariant.0 c.reserve.ensures.entries c.reserve-then-self-n.ensures.same
      (c.reserve-then-self-n.ensures.more c.self.inside.room c.self.invariant.0.room),
  omega arith,
)

pub invariant_of-self-then-self-n : goal.invariant_of-self-then-self-n
invariant_of-self-then-self-n g c = (
  sound_moved g.row.B g.row.M c.self.inside.room c.args.n c.self.inside.opening c.self.inside.entries.entries
      c.reserve.new.self.entries c.self.inside.machine_state c.reserve-then-self-n.new.self
      c.self.invariant.0 c.reserve.ensures.entries c.reserve-then-self-n.ensures.same c.in_ok-reserve-2.ensures.room,
  omega (arith, c.in_ok-reserve.ensures.room),
)
