-- Inputs that are litmus texts.
use Rattle.std.proofs.Common.{arith, ◌≡◌, ◌≤◌, ℕ, List, length, Result, Ok, Err, refl, ◌∙◌}
use Rattle.std.specs.Prelude.{Option, IfOk, IfSome}
use Rattle.std.specs.Str.{IsUtf8}
use Rattle.litmus_reader.specs.declared.faults.LitmusFault.{LitmusFault}
use Rattle.texts.specs.declared.errors.AtLine.{AtLine}
use Rattle.texts.specs.declared.errors.TextError.{TextError}
use Rattle.texts.specs.declared.errors.TextError.TheVariants as error
use Rattle.litmus_reader.specs.{fault_of, litmus_number, Content, test_at}
use Rattle.engine_support.specs.{Fault, ReadFailed, WriteFailed, NoMemory, Refused, Refusal, Answers, AnswersAs, fault_for, refused_at, decoded, IsReadAs}
use Rattle.engine_support.specs.{Reads, litmus_texts, refused_test, test_of, ReadsText, FindsUpToReads}
use Rattle.engine_support.proofs.Judging.{decoded-text, decoded-well}
use Rattle.engine_support.proofs.TextInputs.{answered_text}

-- an error tells the fault at some line
pub answered_refusal : {X : Type 0} (view : X → Content) (text : List ℕ) (e : TextError (AtLine LitmusFault))
    → IfSome (fault_of e) (λ f. test_at text ≡ Err f)
    → (line : ℕ) × Answers view (Err (fault_for (refused_at litmus_number) e)) (test_of line text)
unfolding test_of
answered_refusal view text error.NoMemory is = (0, tt)
answered_refusal view text (error.Refused refusal) is = (refusal.line, rw is refl)

-- an input that has a test isn't refused, at whichever line
well_or_refused : (r : Result Content LitmusFault) (line other : ℕ) (test : Content) (refusal : Refusal)
    → refused_test line r ≡ Ok test → refused_test other r ≡ Err refusal → ⊥
well_or_refused r line other test refusal e f = grind arith

pub test_or_none : (input : List ℕ) (line other : ℕ) (test : Content) (refusal : Refusal)
    → decoded (test_of line) input ≡ Ok test → decoded (test_of other) input ≡ Err refusal → ⊥
unfolding test_of
test_or_none input line other test refusal e f = grind (arith, decoded-well, well_or_refused, decoded-text)

-- what is read of a text with a test answers the input that the text was read of
pub litmus_read : {V X : Type 0} (Says : List ℕ → V → Type 0) (view : X → V) (seen : X → Content) (known : Option (List ℕ)) (text : List ℕ)
    (result : Result X Fault) → ReadsText known (Ok text) → IfOk result (λ x. Says text (view x))
    → (line : ℕ) × Answers seen result (test_of line text) → FindsUpToReads (Reads (litmus_texts Says) known) view result
litmus_read Says view seen known text result read found exact =
    answered_text (IsReadAs (litmus_texts Says)) view known text result read (λ few is_text. at few is_text result found exact)
  where
    at : length text ≤ 1048576 → IsUtf8 text → (r : Result _ Fault) → IfOk r (λ x. Says text (view x))
        → (line : ℕ) × Answers seen r (test_of line text) → AnswersAs (IsReadAs (litmus_texts Says) text) view r
    at few is_text (Ok x) says answers = record { few = few; text = is_text; value_is = says }
    at few is_text (Err (Refused refusal)) says answers = (answers.0, decoded-text (test_of answers.0) text few is_text ∙ answers.1)
    at few is_text (Err NoMemory) says answers = tt
    at few is_text (Err ReadFailed) says answers = absurd answers.1
    at few is_text (Err WriteFailed) says answers = absurd answers.1
