use Rattle.litmus.specs.LitmusTests.{LitmusTest}
use Rattle.litmus_reader.specs.Headings.{HeadingOf, IsHeading, heading_of}
use Rattle.litmus_reader.specs.declared.headings.Heading.{Heading}
use Rattle.recorder.specs.Versions.{schedule_value}
use Rattle.engine_support.specs.{schedules, tests_with, text_and_value}
use Rattle.engine_support.proofs.InputLaws.{made_after, read_after, refused_after}
use Rattle.view_engines.specs.Chart.{IsChart, drawing}
use Rattle.view_engines.proofs.ShowLaws.{words_named}
use Rattle.view_engines.proofs.charting.made.Goals as goal

abbrev headed : LitmusTest × Heading → LitmusTest × HeadingOf
headed read = (read.0, heading_of read.1)

pub returns-in_err-test-clause-made : goal.returns-in_err-test-clause-made
returns-in_err-test-clause-made g c =
    refused_after (tests_with IsHeading) _ _ headed text_and_value c.from_residual.result c.in_err-test.field-0.0
    c.from_residual.ensures.1 c.in_err-test.ensures.read

pub returns-in_err-parsed-clause-made : goal.returns-in_err-parsed-clause-made
returns-in_err-parsed-clause-made g c =
    read_after (tests_with IsHeading) _ _ text_and_value c.from_residual-in_err-parsed.result
    (c.in_ok-test.test, heading_of c.in_ok-test.heading) c.in_ok-test.ensures.read
    (refused_after schedules _ _ schedule_value text_and_value c.from_residual-in_err-parsed.result c.in_err-parsed.field-0.0
    c.from_residual-in_err-parsed.ensures.1 c.in_err-parsed.ensures.schedule)

pub picture-requires-clause-locations : goal.picture-requires-clause-locations
picture-requires-clause-locations g c = words_named _ c.in_ok-test.test (heading_of c.in_ok-test.heading) c.in_ok-test.ensures.read

pub returns-clause-made : goal.returns-clause-made
returns-clause-made g c =
    let q = c.in_ok-test.test in
    let parsed = schedule_value c.in_ok-parsed.parsed in
    let heading = heading_of c.in_ok-test.heading in
    read_after (tests_with IsHeading) _ _ text_and_value c.picture.result (q, heading) c.in_ok-test.ensures.read
    (read_after schedules _ _ text_and_value c.picture.result parsed c.in_ok-parsed.ensures.schedule
    (made_after (IsChart g.row.B g.row.M (drawing c.args.style c.args.selection) heading q parsed) text_and_value c.picture.result c.picture.ensures))
