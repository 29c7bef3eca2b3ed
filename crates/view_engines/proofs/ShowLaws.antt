-- What answers a litmus text that is shown.
use Rattle.std.proofs.Common.{◌≡◌, ℕ, ◌≤◌, List, length, Result, Ok, Err, refl, sym, ap, ap₂, ◌∙◌, arith}
use Rattle.std.specs.Prelude.{Some, IfOk, Option}
use Rattle.std.specs.Str.{IsUtf8}
use Rattle.litmus.specs.LitmusTests.{LitmusTest}
use Rattle.litmus_reader.specs.{IsTestOf, Content, HeadingOf, IsHeading, ListedRowOf}
use Rattle.litmus_reader.specs.declared.faults.LitmusFault.{LitmusFault}
use Rattle.litmus_reader.proofs.HeadingLaws.{one_heading}
use Rattle.texts.proofs.ResultLaws.{ok_is}
use Rattle.engine_support.specs.declared.fault.Fault.{Fault}
use Rattle.engine_support.specs.declared.fault.Fault.TheVariants.{ReadFailed, WriteFailed, NoMemory, Refused}
use Rattle.engine_support.specs.declared.fault.Refusal.{Refusal}
use Rattle.engine_support.specs.{Output, AreOneAnswer, AnswersAs, Answers, test_of, tests_with, Reads, read, refused}
use Rattle.engine_support.proofs.{decoded-text, alike_after, one_litmus_with, same_output, some_bytes}
use Rattle.view_engines.specs.declared.showing.Form.{Form}
use Rattle.view_engines.specs.declared.showing.Form.TheVariants.{Table, Steps}
use Rattle.view_engines.specs.TestLines.{test_lines}
use Rattle.view_engines.specs.Show.{IsShow, IsShowAnswer}

-- what is made of a text answers it
module _ {X : Type 0} (view : X → Output) (form : Form) (text : List ℕ) (few : length text ≤ 1048576) (is_text : IsUtf8 text) where
  pub no_test_shown : {Y : Type 0} (seen : Y → Content) (fault : Fault)
      → (line : ℕ) × Answers seen (Err fault) (test_of line text) → AnswersAs (IsShowAnswer form (Some text)) view (Err fault)
  no_test_shown seen (Refused r) (line, e) = refused r (line, decoded-text (test_of line) text few is_text ∙ e)
  no_test_shown seen NoMemory (line, e) = tt
  no_test_shown seen ReadFailed (line, e) = e
  no_test_shown seen WriteFailed (line, e) = e

  pub test_shown : (test : LitmusTest) → IsTestOf text test → (made : Result X Fault)
      → AnswersAs (IsShow form text test) view made → AnswersAs (IsShowAnswer form (Some text)) view made
  test_shown test is made answers = at made answers
    where
      shown : (answer : Result Output Refusal) → IsShow form text test answer → IsShowAnswer form (Some text) answer
      shown answer = read (test, text) answer (record { few = few; text = is_text; value_is = (is, refl) })

      at : (r : Result X Fault) → AnswersAs (IsShow form text test) view r → AnswersAs (IsShowAnswer form (Some text)) view r
      at (Ok x) answers = shown (Ok (view x)) answers
      at (Err (Refused r)) answers = shown (Err r) answers
      at (Err NoMemory) answers = tt
      at (Err ReadFailed) answers = absurd answers
      at (Err WriteFailed) answers = absurd answers

-- ---- one answer

shown_once : (form : Form) (file : List ℕ) (q : LitmusTest) (a b : Result Output Refusal) → IsShow form file q a → IsShow form file q b → AreOneAnswer a b
shown_once Table file q (Ok a) (Ok b) (heading, rows, is, listed, out) (also, others, is_also, again, other) =
    let headings : heading ≡ also = one_heading file heading also is is_also in
    let listings : rows ≡ others = ok_is LitmusFault rows others (sym listed ∙ again) in
    same_output a b (out ∙ ap₂ (λ (h : HeadingOf) (rs : List ListedRowOf). test_lines h rs q) headings listings ∙ sym other)
shown_once Table file q (Ok a) (Err s) is other = absurd other
shown_once Table file q (Err r) b is other = absurd is
shown_once Steps file q (Ok a) (Ok b) is other = same_output a b (is.0 ∙ sym other.0)
shown_once Steps file q (Ok a) (Err s) is other = absurd (omega (arith, is.1, other.1))
shown_once Steps file q (Err r) (Ok b) is other = absurd (omega (arith, is.1, other.1))
shown_once Steps file q (Err r) (Err s) is other = ap (λ (refusal : Refusal). refusal.number) (is.0 ∙ sym other.0)

pub shown_alike : (form : Form) (file : List ℕ) (a b : Result Output Refusal) → IsShowAnswer form (Some file) a → IsShowAnswer form (Some file) b
    → AreOneAnswer a b
shown_alike form file = alike_after (tests_with (λ text same. same ≡ text)) (λ r s. r.number ≡ s.number)
    (one_litmus_with (λ text same. same ≡ text) (λ text x y is other. is ∙ sym other)) AreOneAnswer (λ r s e. e) file _
    (λ both. shown_once form both.1 both.0)

-- ---- inputs that are litmus texts, read with their headings

-- two things that hold of a result
pub both_hold : {X E : Type 0} (result : Result X E) (P Q : X → Type 0) → IfOk result P → IfOk result Q → IfOk result (λ x. P x × Q x)
both_hold (Ok x) P Q is other = (is, other)
both_hold (Err e) P Q is other = tt

-- a test has a word for each of its locations
pub words-there : (text : List ℕ) (test : LitmusTest) → IsTestOf text test → length test.opening.words ≡ length test.names
unfolding IsTestOf
words-there text test is = is.0.first_words.count

-- so has one that was read
pub words_named : (known : Option (List ℕ)) (test : LitmusTest) (heading : HeadingOf) → Reads (tests_with IsHeading) known (Ok (test, heading))
    → length test.opening.words ≡ length test.names
words_named known test heading reads = let (bytes, is) = some_bytes known _ reads in words-there bytes test is.value_is.0
