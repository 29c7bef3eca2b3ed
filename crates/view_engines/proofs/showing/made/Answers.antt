use Rattle.std.proofs.Common.{◌≡◌, ℕ, List, Result, Err, refl}
use Rattle.std.specs.declared.string.String.{String}
use Rattle.std.specs.Global.{Global}
use Rattle.std.specs.String.{string_bytes}
use Rattle.litmus.specs.LitmusTests.{LitmusTest}
use Rattle.engine_support.specs.declared.fault.Fault.{Fault}
use Rattle.engine_support.specs.{test_of, tests_with, text_and_value}
use Rattle.engine_support.proofs.{refused_after, no_text_judged, no_text_read_as, text_after}
use Rattle.view_engines.specs.Show.{IsShow}
use Rattle.view_engines.proofs.showing.made.Goals as goal

pub returns-in_err-text : goal.returns-in_err-text
returns-in_err-text g c =
    let form = tests_with (λ text same. same ≡ text) in
    let fault = c.in_err-text.field-0.0 in
    let unread : Result (LitmusTest × List ℕ) Fault = Err fault in
    refused_after form _ _ (λ (both : LitmusTest × List ℕ). both) text_and_value c.from_residual.result fault c.from_residual.ensures.1
    (no_text_read_as form (λ (both : LitmusTest × List ℕ). both) (λ (text : String Global). string_bytes text) _ unread fault
    (λ bytes r e. (0, no_text_judged (test_of 0) bytes r e)) refl c.in_err-text.ensures.text)

pub returns : goal.returns
returns g c =
    text_after (tests_with (λ text same. same ≡ text)) (λ both. IsShow c.args.form both.1 both.0) text_and_value _ (string_bytes c.in_ok-text.text)
    c.shown_of_text.result c.in_ok-text.ensures.text (rw c.deref.ensures at c.shown_of_text.ensures)
