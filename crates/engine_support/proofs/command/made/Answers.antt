use Rattle.engine_support.proofs.Endings.{is_handed}
use Rattle.recorder.specs.Versions.{schedule_value}
use Rattle.engine_support.specs.inner.{text_and_value}
use Rattle.engine_support.proofs.ScheduleLaws.{made_of_read, read_fault}
use Rattle.engine_support.proofs.command.made.Goals as goal

pub returns-clause-made : goal.returns-clause-made
returns-clause-made g c =
    made_of_read _ _ g.C.ScheduleCommand.is_answer text_and_value c.answer.result c.in_ok-test.test
    (schedule_value c.in_ok-test.parsed) c.in_ok-test.ensures.read c.answer.ensures

pub returns-in_err-test-clause-made : goal.returns-in_err-test-clause-made
returns-in_err-test-clause-made g c =
    read_fault _ _ g.C.ScheduleCommand.is_answer text_and_value c.from_residual.result c.in_err-test.field-0.0
    (is_handed c.from_residual.result _ c.from_residual.ensures.1) c.in_err-test.ensures.read
