use Rattle.litmus.specs.LitmusTests.{LitmusTest}
use Rattle.litmus_reader.specs.Reading.{content_of}
use Rattle.litmus_reader.specs.declared.headings.Heading.{Heading}
use Rattle.engine_support.specs.inner.{text_and_value}
use Rattle.engine_support.proofs.Endings.{is_handed}
use Rattle.view_engines.proofs.ShowLaws.{words-there, no_test_shown, test_shown}
use Rattle.view_engines.proofs.showing.shown_of_text.Goals as goal

pub shown-requires-clause-locations : goal.shown-requires-clause-locations
shown-requires-clause-locations c = words-there c.args.text.now _ c.in_ok-test.ensures.test

pub returns : goal.returns
returns c few is_text = test_shown text_and_value c.args.form c.args.text.now few is_text _ c.in_ok-test.ensures.test c.shown.result c.shown.ensures

pub returns-in_err-test : goal.returns-in_err-test
returns-in_err-test c few is_text =
    rw (is_handed c.from_residual.result _ c.from_residual.ensures.1)
    (no_test_shown text_and_value c.args.form c.args.text.now few is_text
    (λ (read : LitmusTest × Heading). content_of read.0) c.in_err-test.field-0.0 c.in_err-test.ensures.exact)
