use Rattle.litmus.specs.LitmusTests.{LitmusTest}
use Rattle.litmus_reader.specs.Reading.{content_of}
use Rattle.litmus_reader.specs.declared.headings.Heading.{Heading}
use Rattle.engine_support.proofs.{is_handed, answered_refusal}
use Rattle.view_engines.proofs.heading.headed_of_text.Goals as goal

pub returns-in_err-test-clause-exact : goal.returns-in_err-test-clause-exact
returns-in_err-test-clause-exact c =
    rw (is_handed c.from_residual.result _ c.from_residual.ensures.1)
    (answered_refusal (λ (read : LitmusTest × Heading). content_of read.0) c.args.text.now c.in_err-test.field-0.0 c.in_err-test.ensures.exact)
