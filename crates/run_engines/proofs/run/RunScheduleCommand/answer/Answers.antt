use Rattle.step_machine.specs.History.{History}
use Rattle.recorder.specs.Versions.{schedule_value}
use Rattle.engine_support.specs.{AnswersRun, text_and_value}
use Rattle.engine_support.specs.Runs.{Runs}
use Rattle.engine_support.proofs.ScheduleLaws.{stopped_by}
use Rattle.run_engines.specs.Run.{IsJudged}
use Rattle.run_engines.proofs.run.RunScheduleCommand.answer.Goals as goal

pub returns : goal.returns
returns g c =
    let ran = c.in_ok-machine.ensures.ran in
    record { history = ran.0; ran = ran.1; answers = c.in_ok-judged.ensures ran.0 ran.2 }

pub returns-in_err-machine : goal.returns-in_err-machine
returns-in_err-machine g c =
    stopped_by (Runs g.row.B g.row.M c.args.test.now.opening (schedule_value c.args.parsed))
    (AnswersRun g.row.B g.row.M (IsJudged g.row.M) c.args.test.now (schedule_value c.args.parsed))
    (λ (t : History). t) text_and_value c.from_residual.result c.in_err-machine.field-0.0
    (λ refusal differs. differs) c.from_residual.ensures.1
    c.in_err-machine.ensures.ran
