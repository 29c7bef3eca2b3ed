-- Inputs that are read one after the other: what is answered is one, and what a function leaves that reads them.
use Rattle.std.proofs.Common.{arith, ◌≡◌, ℕ, List, Result, Ok, Err, sym, ap, ◌∙◌}
use Rattle.std.specs.Prelude.{Option, Some, IsErrAnd, IsOkAnd}
use Rattle.std.specs.Result.{IsErr}
use Rattle.texts.specs.Results.{map_err}
use Rattle.engine_support.specs.{Fault, Refusal, AcceptedInput, decoded, AnswersAs, After, Format, IsRefused, Reads, format, schedules, litmus_texts, tests}
use Rattle.engine_support.specs.{tests_with, refused, read, FindsUpToReads, BySchedule}
use Rattle.engine_support.proofs.Endings.{answered_by, handed_on, is_handed}
use Rattle.engine_support.proofs.Judging.{decoded-text}
use Rattle.engine_support.proofs.OneInput.{one_number, one_refusal, schedule-or_refusal, test_or_refusal, value_or_refusal}
use Rattle.litmus.specs.LitmusTests.{LitmusTest}
use Rattle.recorder.specs.Versions.{ScheduleValue}
use Rattle.recorder.proofs.HeadLaws.{one_schedule_value}
use Rattle.litmus_reader.specs.Grammar.{IsTestOf}
use Rattle.litmus_reader.proofs.TestGrammar.{one_test}

-- ---- one answer

-- An input is read as one thing: it has one value, or refusals that are the same, and never both.
pub record IsOne {V : Type 0} (form : Format V) (Same : Refusal → Refusal → Type 0) : Type 0 where
  pub one_value : (input : List ℕ) (v w : V) → form.Says input v → form.Says input w → v ≡ w
  pub one_reason : (input : List ℕ) (r s : Refusal) → form.Refuses input r → form.Refuses input s → Same r s
  pub never_both : (input : List ℕ) (v : V) (r : Refusal) → AcceptedInput form.Says input v → form.Refuses input r → ⊥

-- so is one that is refused for its first fault, if a text says one value and is judged by that
pub is_one : {V : Type 0} (Says : List ℕ → V → Type 0) (value_at : List ℕ → Result V Refusal)
    → ((input : List ℕ) (v w : V) → Says input v → Says input w → v ≡ w)
    → ((input : List ℕ) (v : V) → Says input v → value_at input ≡ Ok v) → IsOne (format Says value_at) (λ r s. r ≡ s)
is_one Says value_at one only = record {
  one_value = one;
  one_reason = λ input r s. one_refusal (decoded value_at input) r s;
  never_both = λ input v r. value_or_refusal value_at Says input v r (only input v);
}

-- and one that is refused for the fault of a reader which has no value of a text where that says none
refused_without : {W E : Type 0} (refusal_of : E → Refusal) (answer : Result W E) (r : Refusal) → map_err refusal_of answer ≡ Err r → IsErr answer
refused_without refusal_of answer r e = grind arith

pub is_one_without : {V W E : Type 0} (Says : List ℕ → V → Type 0) (refusal_of : E → Refusal) (value_at : List ℕ → Result W E)
    → ((input : List ℕ) (v w : V) → Says input v → Says input w → v ≡ w)
    → ((input : List ℕ) → IsErr (value_at input) → (v : V) → Says input v → ⊥) → IsOne (format Says (λ text. map_err refusal_of (value_at text))) (λ r s. r ≡ s)
is_one_without Says refusal_of value_at one none = record {
  one_value = one;
  one_reason = λ input r s. one_refusal (decoded (λ text. map_err refusal_of (value_at text)) input) r s;
  never_both = λ input v r is fault.
      let unread = sym (decoded-text (λ text. map_err refusal_of (value_at text)) input is.few is.text) ∙ fault in
      none input (refused_without refusal_of (value_at input) r unread) v is.value_is;
}

-- schedules are, and litmus texts, whose refusals are the same if their numbers are
pub one_schedule : IsOne schedules (λ r s. r ≡ s)
one_schedule = grind (arith, one_refusal, one_schedule_value, schedule-or_refusal)

pub one_litmus : {V : Type 0} (Says : List ℕ → V → Type 0) (test_in : V → LitmusTest) → ((text : List ℕ) (v : V) → Says text v → IsTestOf text (test_in v))
    → ((text : List ℕ) (v w : V) → Says text v → Says text w → v ≡ w) → IsOne (litmus_texts Says) (λ r s. r.number ≡ s.number)
one_litmus Says test_in tested one = record {
  one_value = one;
  one_reason = one_number;
  never_both = λ input v r is. test_or_refusal input (test_in v) r (record { few = is.few; text = is.text; value_is = tested input v is.value_is });
}

pub one_litmus_text : IsOne tests (λ r s. r.number ≡ s.number)
one_litmus_text = one_litmus IsTestOf (λ test. test) (λ text test is. is) one_test

pub one_litmus_with : {X : Type 0} (Tells : List ℕ → X → Type 0) → ((text : List ℕ) (x y : X) → Tells text x → Tells text y → x ≡ y)
    → IsOne (tests_with Tells) (λ r s. r.number ≡ s.number)
one_litmus_with Tells one = one_litmus _ (λ read. read.0) (λ text read is. is.0)
    (λ text v w is other. let same = one_test text v.0 w.0 is.0 other.0 in let tells = one text v.1 w.1 is.1 other.1 in λ i. (same i, tells i))

module _ {V A : Type 0} (form : Format V) (Same : Refusal → Refusal → Type 0) (is : IsOne form Same)
    (Alike : Result A Refusal → Result A Refusal → Type 0) (refusals : (r s : Refusal) → Same r s → Alike (Err r) (Err s)) where
  -- answers are alike, if they are after one value
  pub alike_after : (bytes : List ℕ) (Next : V → Result A Refusal → Type 0)
      → ((v : V) (a b : Result A Refusal) → Next v a → Next v b → Alike a b)
      → (a b : Result A Refusal) → After form (Some bytes) Next a → After form (Some bytes) Next b → Alike a b
  alike_after bytes Next rest a b first other = grind arith

-- and one, where it is one after one value
pub one_after : {V A : Type 0} (form : Format V) (is : IsOne form (λ r s. r ≡ s)) (bytes : List ℕ) (Next : V → Result A Refusal → Type 0)
    → ((v : V) (a b : Result A Refusal) → Next v a → Next v b → a ≡ b)
    → (a b : Result A Refusal) → After form (Some bytes) Next a → After form (Some bytes) Next b → a ≡ b
one_after form is = alike_after form (λ r s. r ≡ s) is (λ a b. a ≡ b) (λ r s e. ap (λ (x : Refusal). Err x) e)

-- as where no value is refused, and all that is made of one is the same
pub one_made : {A : Type 0} (P : A → Type 0) → ((a b : A) → P a → P b → a ≡ b) → (a b : Result A Refusal) → IsOkAnd a P → IsOkAnd b P → a ≡ b
one_made P one a b is other = grind arith

-- a litmus text and a schedule have answers that are alike, if they are after one test and what the schedule says
module _ {A : Type 0} (Alike : Result A Refusal → Result A Refusal → Type 0) (refusals : (r s : Refusal) → r.number ≡ s.number → Alike (Err r) (Err s))
    (IsAnswer : LitmusTest → ScheduleValue → Result A Refusal → Type 0)
    (alike : (q : LitmusTest) (parsed : ScheduleValue) (a b : Result A Refusal) → IsAnswer q parsed a → IsAnswer q parsed b → Alike a b)
    (file schedule : List ℕ) where
  pub alike_by_schedule : (a b : Result A Refusal) → BySchedule IsAnswer (Some file) (Some schedule) a → BySchedule IsAnswer (Some file) (Some schedule) b
      → Alike a b
  alike_by_schedule = alike_after tests (λ r s. r.number ≡ s.number) one_litmus_text Alike refusals file _
      (λ q. alike_after schedules (λ r s. r ≡ s) one_schedule Alike (λ r s e. refusals r s (ap (λ (x : Refusal). x.number) e)) schedule (IsAnswer q) (alike q))

-- ---- one answer for another

module _ {V A : Type 0} (form : Format V) (input : Option (List ℕ)) where
  -- a refusal of the input, or after a value, is one where it is one after that value
  pub refused_more : {C : Type 0} (P : V → Result A Refusal → Type 0) (Q : V → Result C Refusal → Type 0) (r : Refusal)
      → ((v : V) → P v (Err r) → Q v (Err r)) → After form input P (Err r) → After form input Q (Err r)
  refused_more P Q r more (refused _ none) = refused r none
  refused_more P Q r more (read v _ is holds) = read v (Err r) is (more v holds)

  -- what is made of an input makes more of it
  pub made_more : {C : Type 0} (P : V → Result A Refusal → Type 0) (Q : V → Result C Refusal → Type 0) (x : A) (c : Result C Refusal)
      → ((v : V) → P v (Ok x) → Q v c) → After form input P (Ok x) → After form input Q c
  made_more P Q x c more (read v _ is holds) = read v c is (more v holds)

-- ---- what a function leaves that reads inputs

-- nothing is made of what was read, where each refusal of the one is one of the other
pub unmade : {A C X Y : Type 0} (P : Result A Refusal → Type 0) (Q : Result C Refusal → Type 0) (view : X → A) (seen : Y → C)
    (result : Result Y Fault) (fault : Fault) → ((r : Refusal) → P (Err r) → Q (Err r)) → IsErrAnd result (λ e. e ≡ fault)
    → AnswersAs P view (Err fault) → FindsUpToReads Q seen result
unmade P Q view seen result fault more is answers =
    handed_on P Q view seen result fault more (is_handed result fault is) (answered_by P P view (Err fault) (λ a given. given) answers)

module _ {V A : Type 0} (form : Format V) (input : Option (List ℕ)) (Next : V → Result A Refusal → Type 0) where
  -- an input is refused or isn't read
  pub refused_after : {X Y : Type 0} (view : X → V) (seen : Y → A) (result : Result Y Fault) (fault : Fault) → IsErrAnd result (λ e. e ≡ fault)
      → FindsUpToReads (Reads form input) view (Err fault) → FindsUpToReads (After form input Next) seen result
  refused_after view seen result fault is = handed_on (Reads form input) (After form input Next) view seen result fault refused (is_handed result fault is)

  -- or it is read, and what comes after is an answer
  pub read_after : {Y : Type 0} (seen : Y → A) (result : Result Y Fault) (v : V) → Reads form input (Ok v)
      → FindsUpToReads (Next v) seen result → FindsUpToReads (After form input Next) seen result
  read_after seen result v is finds = grind (arith, read)

-- and what reads nothing more answers
pub made_after : {A Y : Type 0} (P : Result A Refusal → Type 0) (seen : Y → A) (result : Result Y Fault) → AnswersAs P seen result
    → FindsUpToReads P seen result
made_after P seen result = answered_by P P seen result (λ answer holds. holds)

-- what reads a known input that is refused gives no value
pub refused_no_answer : {V X : Type 0} (form : Format V) (Same : Refusal → Refusal → Type 0) (is : IsOne form Same) (input : Option (List ℕ))
    (view : X → V) (result : Result X Fault) → FindsUpToReads (Reads form input) view result → IsRefused form input → IsErr result
refused_no_answer form Same is input view result finds none = grind arith
