use Rattle.litmus_reader.specs.Reading.{content_of}
use Rattle.engine_support.proofs.Endings.{is_handed}
use Rattle.engine_support.proofs.TestTexts.{answered_refusal}
use Rattle.engine_support.proofs.litmus_text.test_of_text.Goals as goal

pub returns-in_err-read-clause-exact : goal.returns-in_err-read-clause-exact
returns-in_err-read-clause-exact c =
    rw (is_handed c.from_residual.result _ c.from_residual.ensures.1)
    (answered_refusal content_of c.args.text.now c.in_err-read.field-0.0 c.in_err-read.ensures.exact)
