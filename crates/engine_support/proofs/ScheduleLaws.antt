-- What answers a litmus text and a schedule of either version, from what was read and made of them.
use Rattle.std.proofs.Common.{arith, ◌≡◌, List, ℕ, Result, Ok, Err}
use Rattle.std.specs.Prelude.{IsErrAnd, Option}
use Rattle.texts.proofs.ResultLaws.{ok_is}
use Rattle.litmus.specs.LitmusTests.{LitmusTest}
use Rattle.recorder.specs.Versions.{ScheduleValue}
use Rattle.engine_support.specs.{Fault, Refusal, AnswersAs, BySchedule, schedules, tests, FindsUpToReads, AreRead, test_and_value}
use Rattle.engine_support.proofs.Endings.{answered_by, handed_on, is_handed}
use Rattle.engine_support.proofs.InputLaws.{made_more, refused_more}

-- a result that hands a fault on, where each refusal that answers one thing answers the other
pub stopped_by : {A C X Y : Type 0} (P : Result A Refusal → Type 0) (Q : Result C Refusal → Type 0) (view : X → A) (seen : Y → C)
    (result : Result Y Fault) (fault : Fault) → ((refusal : Refusal) → P (Err refusal) → Q (Err refusal)) → IsErrAnd result (λ e. e ≡ fault)
    → AnswersAs P view (Err fault) → AnswersAs Q seen result
stopped_by P Q view seen result fault more is answers = let failed = is_handed result fault is in grind arith

module _ (first second : Option (List ℕ)) {A C : Type 0} (P : LitmusTest → ScheduleValue → Result A Refusal → Type 0)
    (Q : LitmusTest → ScheduleValue → Result C Refusal → Type 0) where
  -- a refusal of both, or of what they say
  pub refused_both : (r : Refusal) → ((test : LitmusTest) (parsed : ScheduleValue) → P test parsed (Err r) → Q test parsed (Err r))
      → BySchedule P first second (Err r) → BySchedule Q first second (Err r)
  refused_both r more = refused_more tests first _ _ r (λ test. refused_more schedules second (P test) (Q test) r (more test))

  -- what is made of both
  pub made_both : (x : A) (c : Result C Refusal) → ((test : LitmusTest) (parsed : ScheduleValue) → P test parsed (Ok x) → Q test parsed c)
      → BySchedule P first second (Ok x) → BySchedule Q first second c
  made_both x c more = made_more tests first _ _ x c (λ test. made_more schedules second (P test) (Q test) x c (more test))

-- what is made of what was read answers both
module _ (first second : Option (List ℕ)) {A X : Type 0} (IsAnswer : LitmusTest → ScheduleValue → Result A Refusal → Type 0) (seen : X → A)
    (result : Result X Fault) where
  pub made_of_read : (test : LitmusTest) (parsed : ScheduleValue) → BySchedule AreRead first second (Ok (test, parsed))
      → AnswersAs (IsAnswer test parsed) seen result → FindsUpToReads (BySchedule IsAnswer first second) seen result
  made_of_read test parsed are_read = grind (arith, answered_by, made_both, ok_is)

  -- and so does a fault in reading them
  pub read_fault : (fault : Fault) → result ≡ Err fault → FindsUpToReads (BySchedule AreRead first second) test_and_value (Err fault)
      → FindsUpToReads (BySchedule IsAnswer first second) seen result
  read_fault fault = grind (arith, handed_on, refused_both)
