use Rattle.std.proofs.Common.{ap, ◌∙◌}
use Rattle.std.specs.List.{flat_map}
use Rattle.step_machine.specs.History.{HistoryWithRoom}
use Rattle.recorder.specs.{entry_line, schedule_value}
use Rattle.engine_support.specs.{AnswersRun, text_and_value}
use Rattle.engine_support.specs.Runs.{Runs}
use Rattle.engine_support.proofs.ScheduleLaws.{stopped_by}
use Rattle.run_engines.specs.Run.{IsReplay}
use Rattle.run_engines.proofs.replay.ReplayScheduleCommand.answer.Goals as goal

pub returns : goal.returns
returns g c = record {
  history = c.in_ok-machine.machine.history;
  ran = c.in_ok-machine.ensures.ran;
  answers = c.in_ok-text.ensures ∙ ap (flat_map entry_line) c.entries.ensures.value;
}

pub returns-in_err-machine : goal.returns-in_err-machine
returns-in_err-machine g c =
    stopped_by (Runs g.row.B g.row.M c.args.test.now.opening (schedule_value c.args.parsed))
    (AnswersRun g.row.B g.row.M IsReplay c.args.test.now (schedule_value c.args.parsed))
    (λ (machine : HistoryWithRoom). machine.history) text_and_value c.from_residual.result c.in_err-machine.field-0.0
    (λ refusal differs. differs) c.from_residual.ensures.1
    c.in_err-machine.ensures.ran
