use Rattle.std.proofs.Common.{◌≡◌}
use Rattle.std.specs.String.{string_bytes}
use Rattle.litmus.specs.LitmusTests.{LitmusTest}
use Rattle.litmus_reader.specs.{IsTestOf, content_of}
use Rattle.engine_support.specs.Inputs.{tests}
use Rattle.engine_support.proofs.InputLaws.{one_litmus_text, refused_no_answer}
use Rattle.engine_support.proofs.TestTexts.{litmus_read}
use Rattle.engine_support.proofs.litmus_text.read_test.Goals as goal

pub returns-clause-test : goal.returns-clause-test
returns-clause-test g c =
    litmus_read IsTestOf (λ (test : LitmusTest). test) content_of _ (string_bytes c.in_ok-text.text) c.test_of_text.result c.in_ok-text.ensures.text
    (rw c.deref.ensures at c.test_of_text.ensures.found) (rw c.deref.ensures at c.test_of_text.ensures.exact)

pub returns-clause-refused : goal.returns-clause-refused
returns-clause-refused g c =
    refused_no_answer tests (λ r s. r.number ≡ s.number) one_litmus_text _ (λ (test : LitmusTest). test) c.test_of_text.result (returns-clause-test g c)
