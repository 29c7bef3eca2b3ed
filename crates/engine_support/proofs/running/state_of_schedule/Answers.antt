use Rattle.recorder.specs.Versions.{schedule_value}
use Rattle.engine_support.proofs.RunLaws.{harts_left}
use Rattle.engine_support.proofs.running.state_of_schedule.Goals as goal

pub returns-clause-harts : goal.returns-clause-harts
returns-clause-harts g c =
    harts_left g.row.B g.row.M c.args.test.now.opening _ c.in_ok-opening.ensures.copy
    (schedule_value c.args.schedule) c.state_after.result c.state_after.ensures
