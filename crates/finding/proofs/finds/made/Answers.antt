use Rattle.litmus.specs.LitmusTests.{LitmusTest}
use Rattle.engine_support.specs.{tests, text_and_value}
use Rattle.engine_support.proofs.InputLaws.{made_after, read_after, refused_after}
use Rattle.finding.specs.Find.{IsFindGiven}
use Rattle.finding.proofs.finds.made.Goals as goal

pub returns-in_err-test : goal.returns-in_err-test
returns-in_err-test g c =
    refused_after tests _ _ (λ (q : LitmusTest). q) text_and_value c.from_residual.result c.in_err-test.field-0.0
    c.from_residual.ensures.1 c.in_err-test.ensures.test

pub returns : goal.returns
returns g c =
    read_after tests _ _ text_and_value c.answer.result c.in_ok-test.test c.in_ok-test.ensures.test
    (made_after (IsFindGiven g.row.B g.row.M c.args.states c.in_ok-test.test) text_and_value c.answer.result c.answer.ensures)
