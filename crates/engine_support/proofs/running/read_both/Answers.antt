use Rattle.std.proofs.Common.{refl}
use Rattle.litmus.specs.LitmusTests.{LitmusTest}
use Rattle.recorder.specs.Versions.{schedule_value}
use Rattle.engine_support.specs.{read, schedules, tests, test_and_value}
use Rattle.engine_support.proofs.InputLaws.{read_after, refused_after}
use Rattle.engine_support.proofs.running.read_both.Goals as goal

pub returns-in_err-test-clause-read : goal.returns-in_err-test-clause-read
returns-in_err-test-clause-read g c =
    refused_after tests _ _ (λ (q : LitmusTest). q) test_and_value c.from_residual.result c.in_err-test.field-0.0
    c.from_residual.ensures.1 c.in_err-test.ensures.test

pub returns-in_err-parsed-clause-read : goal.returns-in_err-parsed-clause-read
returns-in_err-parsed-clause-read g c =
    read_after tests _ _ test_and_value c.from_residual-in_err-parsed.result c.in_ok-test.test c.in_ok-test.ensures.test
    (refused_after schedules _ _ schedule_value test_and_value c.from_residual-in_err-parsed.result c.in_err-parsed.field-0.0
    c.from_residual-in_err-parsed.ensures.1 c.in_err-parsed.ensures.schedule)

pub returns-clause-read : goal.returns-clause-read
returns-clause-read g c =
    read c.in_ok-test.test _ c.in_ok-test.ensures.test (read (schedule_value c.in_ok-parsed.parsed) _ c.in_ok-parsed.ensures.schedule refl)
