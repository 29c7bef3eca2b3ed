use Rattle.step_machine.specs.History.{at_opening}
use Rattle.recorder.proofs.running.replay_state.Goals as goal

pub returns-in-Ok : goal.returns-in-Ok
returns-in-Ok g c = c.in-Ok.ensures.ok (at_opening c.args.opening.now) c.in_ok-machine.ensures
