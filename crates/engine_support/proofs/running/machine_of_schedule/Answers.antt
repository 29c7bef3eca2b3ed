use Rattle.step_machine.specs.History.{HistoryWithRoom}
use Rattle.recorder.specs.Versions.{schedule_value}
use Rattle.engine_support.proofs.RunLaws.{harts_stay}
use Rattle.engine_support.proofs.running.machine_of_schedule.Goals as goal

pub returns-clause-harts : goal.returns-clause-harts
returns-clause-harts g c =
    harts_stay g.row.B g.row.M c.args.test.now.opening _ c.in_ok-opening.ensures.copy (schedule_value c.args.schedule)
    (λ (machine : HistoryWithRoom). machine.history) c.machine_after.result c.machine_after.ensures
