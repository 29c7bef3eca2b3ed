use Rattle.engine_support.proofs.{is_handed, made_of_read, read_fault}
use Rattle.recorder.specs.Versions.{schedule_value}
use Rattle.engine_support.specs.Histories.{AnswersEvents}
use Rattle.debugger.specs.{DebuggerState, IsAtStart}
use Rattle.debugger.proofs.debug.open_debugger.Goals as goal

pub returns-in_err-test-clause-debugger : goal.returns-in_err-test-clause-debugger
returns-in_err-test-clause-debugger g c =
    read_fault _ _ (AnswersEvents IsAtStart) (λ (debugger : DebuggerState). debugger) c.from_residual.result c.in_err-test.field-0.0
    (is_handed c.from_residual.result _ c.from_residual.ensures.1) c.in_err-test.ensures.read

pub returns-clause-debugger : goal.returns-clause-debugger
returns-clause-debugger g c =
    made_of_read _ _ (AnswersEvents IsAtStart) (λ (debugger : DebuggerState). debugger) c.debugger_along.result c.in_ok-test.test
    (schedule_value c.in_ok-test.given) c.in_ok-test.ensures.read c.debugger_along.ensures
