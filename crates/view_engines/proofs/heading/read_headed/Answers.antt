use Rattle.std.proofs.Common.{◌≡◌}
use Rattle.std.specs.String.{string_bytes}
use Rattle.litmus.specs.LitmusTests.{LitmusTest}
use Rattle.litmus_reader.specs.{IsTestOf, HeadingOf, IsHeading, heading_of, content_of}
use Rattle.litmus_reader.specs.declared.headings.Heading.{Heading}
use Rattle.litmus_reader.proofs.HeadingLaws.{one_heading}
use Rattle.engine_support.specs.Inputs.{tests_with}
use Rattle.engine_support.proofs.{one_litmus_with, refused_no_answer, litmus_read}
use Rattle.view_engines.proofs.ShowLaws.{both_hold}
use Rattle.view_engines.proofs.heading.read_headed.Goals as goal

abbrev headed : LitmusTest × Heading → LitmusTest × HeadingOf
headed read = (read.0, heading_of read.1)

pub returns-clause-read : goal.returns-clause-read
returns-clause-read g c =
    litmus_read (λ text read. IsTestOf text read.0 × IsHeading text read.1) headed (λ (read : LitmusTest × Heading). content_of read.0) _
    (string_bytes c.in_ok-text.text) c.headed_of_text.result c.in_ok-text.ensures.text
    (both_hold c.headed_of_text.result _ _ (rw c.deref.ensures at c.headed_of_text.ensures.test) (rw c.deref.ensures at c.headed_of_text.ensures.heading))
    (rw c.deref.ensures at c.headed_of_text.ensures.exact)

pub returns-clause-refused : goal.returns-clause-refused
returns-clause-refused g c =
    refused_no_answer (tests_with IsHeading) (λ r s. r.number ≡ s.number) (one_litmus_with IsHeading one_heading) _ headed c.headed_of_text.result
    (returns-clause-read g c)
