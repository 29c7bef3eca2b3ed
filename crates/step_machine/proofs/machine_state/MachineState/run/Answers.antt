-- One more event has happened, to whatever history the machine stood at the end of.
use Rattle.step_machine.proofs.Running.{run_more}
use Rattle.step_machine.proofs.machine_state.MachineState.run.Goals as goal

pub loop-done-preserved : goal.loop-done-preserved
loop-done-preserved g c = λ t stands.
    (let before = c.loop-done.invariant t stands in
    let after = c.in-Ok.ensures.ok before.0 before.2 in (
      after.0,
      run_more g.row.B g.row.M t c.args.events.now c.loop-done.done _ before.0 c.in-Ok.field-0 after.0 c.loop-done-test.true before.1 after.1,
      after.2,
    ))
