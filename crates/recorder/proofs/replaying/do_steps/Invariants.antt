use Rattle.std.proofs.Common.{take}
use Rattle.step_machine.specs.History.{at_opening}
use Rattle.recorder.specs.Replaying.{RecordFrom}
use Rattle.recorder.proofs.replaying.do_steps.Given as goal

abbrev pub invariant-loop-place : goal.invariant-loop-place
invariant-loop-place g l = RecordFrom g.row.B g.row.M (at_opening l.fn.machine.history.opening) (take l.place l.steps) l.machine.history
