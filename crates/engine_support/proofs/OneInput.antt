-- An input has its value or a refusal of one number, and so one answer.
use Rattle.std.proofs.Common.{arith, ◌≡◌, ℕ, Bool, cond, ltb, List, length, Result, Ok, Err, refl, ap, ◌∙◌}
use Rattle.std.specs.Str.{is_utf8}
use Rattle.texts.proofs.FormatLaws.{settled_only}
use Rattle.step_machine.specs.History.{History}
use Rattle.recorder.specs.Versions.{ScheduleValue, SaysSchedule, schedule_at}
use Rattle.recorder.proofs.HeadLaws.{value_settles}
use Rattle.litmus.specs.LitmusTests.{LitmusTest}
use Rattle.litmus_reader.specs.declared.faults.LitmusFault.{LitmusFault}
use Rattle.litmus_reader.specs.{IsTestOf, Content, content_of, test_at}
use Rattle.litmus_reader.proofs.TestGrammar.{read_exactly}
use Rattle.engine_support.specs.{Refusal, Output, AcceptedInput, AreOneAnswer, decoded, too_large, not_text, IsNoTest, refused_test, test_of, schedule_of}
use Rattle.engine_support.specs.{AnswersRun}
use Rattle.engine_support.proofs.Judging.{accepted-decoded, decoded-text}
use Rattle.engine_support.proofs.RunLaws.{one_run}
use Rattle.engine_support.proofs.TestTexts.{test_or_none}

pub same_output : (a b : Output) → a.0 ≡ b.0 → a ≡ b
same_output a b e = λ i. (e i, tt)

pub test_or_refusal : (input : List ℕ) (q : LitmusTest) (r : Refusal) → AcceptedInput IsTestOf input q → IsNoTest input r → ⊥
unfolding test_of IsTestOf
test_or_refusal input q r is (line, refused) =
    let read : test_at input ≡ Ok (content_of q) = (read_exactly input (content_of q)).1 is.value_is.0 in
    test_or_none input line line (content_of q) r (decoded-text (test_of line) input is.few is.text ∙ ap (refused_test line) read) refused

-- two refusals of one litmus text, each with some line
numbers_of : (long text : Bool) (read : Result Content LitmusFault) (line other : ℕ) (r s : Refusal)
    → cond long (Err too_large) (cond text (refused_test line read) (Err not_text)) ≡ Err r
    → cond long (Err too_large) (cond text (refused_test other read) (Err not_text)) ≡ Err s → r.number ≡ s.number
numbers_of long text read line other r s e f = grind arith

pub one_number : (input : List ℕ) (r s : Refusal) → IsNoTest input r → IsNoTest input s → r.number ≡ s.number
unfolding test_of
one_number input r s (line, e) (other, f) = numbers_of (ltb 1048576 (length input)) (is_utf8 input) (test_at input) line other r s e f

-- an input doesn't have a value and a refusal
pub value_or_refusal : {V : Type 0} (value_at : List ℕ → Result V Refusal) (IsValue : List ℕ → V → Type 0) (input : List ℕ) (v : V) (r : Refusal)
    → (IsValue input v → value_at input ≡ Ok v) → AcceptedInput IsValue input v → decoded value_at input ≡ Err r → ⊥
value_or_refusal value_at IsValue input v r only is refused = let read : decoded value_at input ≡ Ok v = accepted-decoded value_at IsValue input v only is in cc

pub schedule-or_refusal : (input : List ℕ) (parsed : ScheduleValue) (r : Refusal)
    → AcceptedInput SaysSchedule input parsed → decoded schedule_of input ≡ Err r → ⊥
unfolding schedule_of
schedule-or_refusal input parsed r =
    value_or_refusal schedule_of SaysSchedule input parsed r
    (λ says. let found = settled_only (SaysSchedule input) (schedule_at input) parsed (value_settles input) says in rw found refl)

pub one_refusal : {V : Type 0} (judgement : Result V Refusal) (r s : Refusal) → judgement ≡ Err r → judgement ≡ Err s → r ≡ s
one_refusal judgement r s e f = cc

-- ---- what is answered by a history

-- answers that are the same are one answer
pub equal_alike : {A : Type 0} (a b : Result A Refusal) → a ≡ b → AreOneAnswer a b
equal_alike a b e = grind arith

-- what is one of a history is one of a test and a schedule
module _ {A : Type 0} (B M : ℕ) (IsAnswer : LitmusTest → History → A → Type 0)
    (one : (q : LitmusTest) (t : History) (a b : A) → IsAnswer q t a → IsAnswer q t b → a ≡ b) where
  pub one_of_history : (q : LitmusTest) (parsed : ScheduleValue) (a b : Result A Refusal)
      → AnswersRun B M IsAnswer q parsed a → AnswersRun B M IsAnswer q parsed b → AreOneAnswer a b
  one_of_history q parsed a b is other = grind (arith, one, one_run)
