-- What answers an input that is read as a text.
use Rattle.std.proofs.Common.{arith, ◌≡◌, ℕ, ◌≤◌, Bool, List, length, Result, Ok, Err, ◌∙◌}
use Rattle.std.specs.Prelude.{Option, Some, None, IfOk, IsErrAnd, nat_lt, if◌then◌else◌}
use Rattle.std.specs.Str.{IsUtf8, is_utf8}
use Rattle.engine_support.specs.{Fault, ReadFailed, WriteFailed, NoMemory, Refused, Refusal, OfInput, decoded, Answers, AnswersAs, not_text, too_large, After}
use Rattle.engine_support.specs.{Format, IsReadAs, Reads, format, IsReadAsText, ReadsText, FindsUpToReads}
use Rattle.engine_support.specs.Inputs as after
use Rattle.engine_support.proofs.Endings.{answered_by, handed_on, is_handed, weaker}
use Rattle.engine_support.proofs.Judging.{decoded-as_text, decoded-no_text, decoded-text}

-- what holds of an input that is known or not holds of some bytes
pub some_bytes : (known : Option (List ℕ)) (P : List ℕ → Type 0) → OfInput known P → (bytes : List ℕ) × P bytes
some_bytes known P is = grind arith

-- what was read of an input is its text, or it is none
module _ (known : Option (List ℕ)) (input : List ℕ) (read : OfInput known (λ bytes. input ≡ bytes)) (few : length input ≤ 1048576) where
  pub text_read : (text : List ℕ) → text ≡ input → IsUtf8 text → ReadsText known (Ok text)
  text_read text is is_text =
      weaker known _ _ (λ bytes e. rw (← e, ← is) (decoded-text (λ b. Ok b) text (rw is few) is_text)) read

  pub no_text_read : (IsUtf8 input → ⊥) → ReadsText known (Err not_text)
  no_text_read none = weaker known _ _ (λ bytes e. rw (← e) (decoded-no_text (λ b. Ok b) input few none)) read

-- what answers the text that was read answers the input
pub answered_text : {X Y : Type 0} (IsAnswer : List ℕ → Result Y Refusal → Type 0) (view : X → Y)
    (known : Option (List ℕ)) (text : List ℕ) (result : Result X Fault)
    → ReadsText known (Ok text)
    → (length text ≤ 1048576 → IsUtf8 text → AnswersAs (IsAnswer text) view result)
    → FindsUpToReads (λ answer. OfInput known (λ bytes. IsAnswer bytes answer)) view result
answered_text IsAnswer view known text result read answers = grind (arith, answered_by, decoded-as_text, some_bytes, weaker)

-- so does its value, or why it has none
pub format_read : {V W X : Type 0} (Says : List ℕ → V → Type 0) (value_at : List ℕ → Result W Refusal) (view : X → V) (seen : X → W)
    (known : Option (List ℕ)) (text : List ℕ) (result : Result X Fault) → ReadsText known (Ok text)
    → IfOk result (λ x. Says text (view x)) → Answers seen result (value_at text) → FindsUpToReads (Reads (format Says value_at) known) view result
format_read Says value_at view seen known text result read found exact =
    answered_text (IsReadAs (format Says value_at)) view known text result read (λ few is_text. at few is_text result found exact)
  where
    at : length text ≤ 1048576 → IsUtf8 text → (r : Result _ Fault) → IfOk r (λ x. Says text (view x)) → Answers seen r (value_at text)
        → AnswersAs (IsReadAs (format Says value_at) text) view r
    at few is_text (Ok x) says answers = record { few = few; text = is_text; value_is = says }
    at few is_text (Err (Refused refusal)) says answers = decoded-text value_at text few is_text ∙ answers
    at few is_text (Err NoMemory) says answers = tt
    at few is_text (Err ReadFailed) says answers = absurd answers
    at few is_text (Err WriteFailed) says answers = absurd answers

-- as where it is judged, and what is judged to have a value has it
pub judged_read : {V X : Type 0} (Says : List ℕ → V → Type 0) (value_at : List ℕ → Result V Refusal) (view : X → V) (known : Option (List ℕ))
    (text : List ℕ) (result : Result X Fault) → ReadsText known (Ok text)
    → ((v : V) → value_at text ≡ Ok v → Says text v) → Answers view result (value_at text) → FindsUpToReads (Reads (format Says value_at) known) view result
judged_read Says value_at view known text result is found answers = grind (arith, format_read)

-- an input that is no text is refused so, whatever it is to be
refused_first : {V W : Type 0} (large is_text : Bool) (value : Result V Refusal) (other : W) (refusal : Refusal)
    → (if large then Err too_large else (if is_text then Ok other else Err not_text)) ≡ Err refusal
    → (if large then Err too_large else (if is_text then value else Err not_text)) ≡ Err refusal
refused_first large is_text value other refusal e = grind arith

pub no_text_judged : {V : Type 0} (value_at : List ℕ → Result V Refusal) (bytes : List ℕ) (refusal : Refusal)
    → IsReadAsText bytes (Err refusal) → decoded value_at bytes ≡ Err refusal
no_text_judged value_at bytes refusal e = refused_first (nat_lt 1048576 (length bytes)) (is_utf8 bytes) (value_at bytes) bytes refusal e

pub no_text_read_as : {V X Y : Type 0} (form : Format V) (view : X → V) (seen : Y → List ℕ) (known : Option (List ℕ)) (result : Result X Fault) (fault : Fault)
    → ((bytes : List ℕ) (refusal : Refusal) → IsReadAsText bytes (Err refusal) → form.Refuses bytes refusal) → IsErrAnd result (λ e. e ≡ fault)
    → FindsUpToReads (ReadsText known) seen (Err fault) → FindsUpToReads (Reads form known) view result
no_text_read_as form view seen known result fault refuses is = grind (arith, handed_on, is_handed, weaker)

-- what answers the text that was read answers the reader's input
of_known : {V A : Type 0} (form : Format V) (Next : V → Result A Refusal → Type 0) (known : Option (List ℕ)) (answer : Result A Refusal)
    → OfInput known (λ bytes. After form (Some bytes) Next answer) → After form known Next answer
of_known form Next None answer (bytes, after.After.refused r none) = after.After.refused r (bytes, none)
of_known form Next None answer (bytes, after.After.read v _ is holds) = after.After.read v answer (bytes, is) holds
of_known form Next (Some bytes) answer is = is

pub text_after : {V A X : Type 0} (form : Format V) (Next : V → Result A Refusal → Type 0) (view : X → A) (known : Option (List ℕ)) (text : List ℕ)
    (result : Result X Fault) → ReadsText known (Ok text)
    → (length text ≤ 1048576 → IsUtf8 text → AnswersAs (After form (Some text) Next) view result) → FindsUpToReads (After form known Next) view result
text_after form Next view known text result is answers = grind (arith, answered_by, decoded-as_text, of_known, some_bytes, weaker)
