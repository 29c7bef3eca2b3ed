-- One more event has happened.
use Rattle.std.proofs.Common.{◌∙◌, arith}
use Rattle.step_machine.proofs.Running.{run_more}
use Rattle.step_machine.proofs.machine.Machine.run.Goals as goal

pub loop-done-preserved : goal.loop-done-preserved
loop-done-preserved g c = record {
  so_far = run_more g.row.B g.row.M c.args.self.now.history c.args.events.now c.loop-done.done _
      c.loop-done.self.history c.in-Ok.field-0 c.step.new.self.history
      c.loop-done-test.true c.loop-done.invariant.so_far c.in-Ok.ensures.happens;
  opening = c.step.ensures.opening ∙ c.loop-done.invariant.opening;
  room = omega arith;
}
