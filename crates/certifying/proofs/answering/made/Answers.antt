use Rattle.litmus.specs.LitmusTests.{LitmusTest}
use Rattle.drawn_runs.specs.Samples.{runs_of}
use Rattle.queue_certificates.specs.Certificates.{QueueCertificate}
use Rattle.engine_support.specs.{tests, text_and_value}
use Rattle.engine_support.proofs.InputLaws.{made_after, read_after, refused_after}
use Rattle.certifying.specs.Answers.{IsCertificateAnswer}
use Rattle.certifying.specs.Questions.{questions_by, certificates}
use Rattle.certifying.proofs.answering.made.Goals as goal

pub returns-in_err-test-clause-made : goal.returns-in_err-test-clause-made
returns-in_err-test-clause-made g c =
    refused_after tests _ _ (λ (test : LitmusTest). test) text_and_value c.from_residual.result c.in_err-test.field-0.0
    c.from_residual.ensures.1 c.in_err-test.ensures.test

pub returns-in_err-listed-clause-made : goal.returns-in_err-listed-clause-made
returns-in_err-listed-clause-made g c =
    let result = c.from_residual-in_err-listed.result in
    read_after tests _ _ text_and_value result c.in_ok-test.test c.in_ok-test.ensures.test
    (refused_after certificates _ _ (λ (listed : QueueCertificate). listed) text_and_value result c.in_err-listed.field-0.0
    c.from_residual-in_err-listed.ensures.1 c.in_err-listed.ensures)

pub returns-clause-made : goal.returns-clause-made
returns-clause-made g c =
    let test = c.in_ok-test.test in
    let listed = c.in_ok-listed.listed in
    read_after tests _ _ text_and_value c.answer.result test c.in_ok-test.ensures.test
    (read_after certificates _ _ text_and_value c.answer.result listed c.in_ok-listed.ensures
    (made_after
    (IsCertificateAnswer (runs_of g.row.B g.row.M g.G.Rng.stream c.args.sample.now) (questions_by c.args.asked) test.opening listed) text_and_value
    c.answer.result c.answer.ensures))
