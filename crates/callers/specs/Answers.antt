-- The answer of many runs: that all keep what callers owe and what they count to, or a violation and a short schedule of a run that has it.
use Rattle.std.specs.Prelude.{ℕ, ◌≡◌, ◌⊎◌, Bool, true, false, not, List, [], ◌∷◌, ◌++◌, length, Option, Result, Ok, Err, codes}
use Rattle.std.specs.Fmt.{decimal}
use Rattle.step_machine.specs.declared.events.Event.{Event}
use Rattle.step_machine.specs.History.{OpeningValue}
use Rattle.litmus.specs.LitmusTests.{LitmusTest}
use Rattle.recorder.specs.Writing.{canon}
use Rattle.drawn_runs.specs.Samples.{DrawnRuns, schedule_in}
use Rattle.judged_runs.specs.Finding.{AreAllGood}
use Rattle.judged_runs.specs.Telling.{IsFlawTold}
use Rattle.engine_support.specs.declared.fault.Refusal.{Refusal}
use Rattle.engine_support.specs.Inputs.{After, tests}
use Rattle.callers.specs.Queues.{IsLocated}
use Rattle.callers.specs.Violations.{IsFirstOpeningViolation}
use Rattle.callers.specs.Counts.{AreCountsOf, are_none}
use Rattle.callers.specs.Runs.{KeepsObligations, HasCallerViolation}
use Rattle.callers.specs.declared.counts.Counts.{Counts}
use Rattle.callers.specs.declared.judging.Calls.{Calls}
use Rattle.callers.specs.declared.violations.CallerViolation.{CallerViolation}
use Rattle.callers.specs.declared.violations.CallerViolation.TheVariants as violation
use Rattle.callers.specs.declared.queue.QueueKind.{QueueKind}
use Rattle.callers.specs.declared.queue.QueueKind.TheVariants as kind
use Rattle.callers.specs.declared.queue.Queue.{Queue}
use Rattle.callers.specs.declared.queue.Located.{Located}

-- the function that the sender of such a queue calls, and the one that its receiver calls
abbrev pub send_name : QueueKind → List ℕ
send_name kind.Lamport = codes "lamport_try_send"
send_name kind.Cached = codes "cached_try_send"
send_name kind.FastForward = codes "fastforward_try_send"

abbrev pub receive_name : QueueKind → List ℕ
receive_name kind.Lamport = codes "lamport_try_receive"
receive_name kind.Cached = codes "lamport_try_receive"
receive_name kind.FastForward = codes "fastforward_try_receive"

-- the violation in words
abbrev pub violation_text : CallerViolation → List ℕ
violation_text violation.NoBlock = codes "the block isn't aligned to 4 bytes, has no slot, or ends past the memory"
violation_text (violation.OneParty h) = codes "hart " ++ decimal h ++ codes " both sends and receives"
violation_text (violation.NoSend k h) = codes "hart " ++ decimal h ++ codes " has no " ++ send_name k ++ codes " in its code"
violation_text (violation.NoReceive k h) = codes "hart " ++ decimal h ++ codes " has no " ++ receive_name k ++ codes " in its code"
violation_text (violation.NoOffset a w) = codes "the index at " ++ decimal a ++ codes " opens as " ++ decimal w ++ codes ", not as the offset of a slot"
violation_text (violation.NoCopy a w) =
    codes "the copy of the tail at " ++ decimal a ++ codes " opens as " ++ decimal w ++ codes ", not as an offset that the tail can have had"
violation_text (violation.NotFree a w) = codes "the slot at " ++ decimal a ++ codes " opens as " ++ decimal w ++ codes " and not as 0"
violation_text (violation.NoWord a) = codes "the slot at " ++ decimal a ++ codes " opens as 0, where a word waits"
violation_text (violation.Wrote h pc a) =
    codes "hart " ++ decimal h ++ codes " wrote to the block at " ++ decimal a ++ codes " outside of a call, at pc " ++ decimal pc
violation_text (violation.PassedBytes h bytes) =
    codes "hart " ++ decimal h ++ codes " called with a2 = " ++ decimal bytes ++ codes ", not the bytes of the slots"
violation_text (violation.PassedWord h) = codes "hart " ++ decimal h ++ codes " called with a1 = 0, which is no word"
violation_text (violation.PassedReturn h back) = codes "hart " ++ decimal h ++ codes " called with ra = " ++ decimal back ++ codes ", no place to return to"

abbrev pub violation_line : CallerViolation → List ℕ
violation_line d = violation_text d ++ 10 ∷ []

-- how many runs keep what callers owe, or that no call returned in them
abbrev pub head_words : (none : Bool) → List ℕ
head_words true = codes "no call returned in "
head_words false = codes "kept "

abbrev pub head_line : (runs : ℕ) → Calls → List ℕ
head_line runs calls = head_words (are_none calls) ++ (decimal runs ++ (codes " runs" ++ 10 ∷ []))

-- what the calls of a party's hart came to
abbrev pub calls_line : (hart : ℕ) → (did : List ℕ) → (words : ℕ) → (found : List ℕ) → (times : ℕ) → List ℕ
calls_line h did words found times = codes "hart " ++ (decimal h ++ (codes " " ++ (did ++ (codes " " ++ (decimal words
    ++ (codes " words and found the queue " ++ (found ++ (codes " " ++ (decimal times ++ (codes " times" ++ 10 ∷ []))))))))))

abbrev pub runs_unfinished_line : (runs : ℕ) → List ℕ
runs_unfinished_line runs = codes "unfinished " ++ (decimal runs ++ 10 ∷ [])

abbrev pub kept_text : Queue → (runs : ℕ) → Counts → List ℕ
kept_text q runs counts =
    head_line runs counts.calls ++ calls_line q.sender (codes "sent") counts.calls.sent (codes "full") counts.calls.full
    ++ calls_line q.receiver (codes "received") counts.calls.received (codes "empty") counts.calls.empty ++ runs_unfinished_line counts.unfinished

-- the schedules of drawn runs from an opening
abbrev pub call_schedule : DrawnRuns → OpeningValue → (number : ℕ) → List Event
call_schedule d o = schedule_in d (length o.harts)

-- all runs keep what callers owe, and the text has what they count to; whether some call returned
pub record IsKeptOutput (d : DrawnRuns) (o : OpeningValue) (l : Located) (text : List ℕ) (called : Bool) : Type 0 where
  pub counts : Counts
  pub kept : AreAllGood (KeepsObligations d.B d.M o l) (AreCountsOf d.B d.M o l) (call_schedule d o) 0 d.number counts
  pub called_is : called ≡ not (are_none counts.calls)
  pub text_is : text ≡ kept_text l.queue d.number counts

-- the first run that owes something, made short, and what it owes first
pub record IsViolationOutput (d : DrawnRuns) (o : OpeningValue) (l : Located) (text : List ℕ) : Type 0 where
  pub part : List Event
  pub violation : CallerViolation
  pub is_told : IsFlawTold (KeepsObligations d.B d.M o l) (HasCallerViolation d.B d.M o l) (λ found other. found ≡ other)
      (call_schedule d o) d.number part violation
  pub text_is : text ≡ canon part ++ violation_line violation

-- something is owed at the opening already, which a schedule of no events shows: the first of it
pub record IsOpeningViolationOutput (M : ℕ) (o : OpeningValue) (queue : Queue) (text : List ℕ) : Type 0 where
  pub violation : CallerViolation
  pub has_violation : IsFirstOpeningViolation M o queue violation
  pub text_is : text ≡ canon [] ++ violation_line violation

-- the text for these runs, and whether all keep what callers owe and some call returned
abbrev pub IsOutputOfRuns : DrawnRuns → OpeningValue → Located → List ℕ × Bool → Type 0
IsOutputOfRuns d o l (text, true) = IsKeptOutput d o l text true
IsOutputOfRuns d o l (text, false) = IsKeptOutput d o l text false ⊎ IsViolationOutput d o l text

-- the same of a queue whose functions were found
pub record IsLocatedOutput (d : DrawnRuns) (o : OpeningValue) (queue : Queue) (answer : List ℕ × Bool) : Type 0 where
  pub located : Located
  pub usable : IsLocated d.M o queue located
  pub output_of : IsOutputOfRuns d o located answer

-- the text for these drawn runs from this opening, and whether all keep what callers owe and some call returned: what is owed at the opening
-- already, or what the runs show
abbrev pub IsCallersOutput : DrawnRuns → OpeningValue → Queue → List ℕ × Bool → Type 0
IsCallersOutput d o queue (text, true) = IsLocatedOutput d o queue (text, true)
IsCallersOutput d o queue (text, false) = IsOpeningViolationOutput d.M o queue text ⊎ IsLocatedOutput d o queue (text, false)

-- what answers a test; none is refused
abbrev pub IsCallersGiven : DrawnRuns → Queue → LitmusTest → Result (List ℕ × Bool) Refusal → Type 0
IsCallersGiven d queue test (Ok answer) = IsCallersOutput d test.opening queue answer
IsCallersGiven d queue test (Err refusal) = ⊥

-- what answers a litmus text
abbrev pub IsCallersAnswer : DrawnRuns → Queue → (file : Option (List ℕ)) → Result (List ℕ × Bool) Refusal → Type 0
IsCallersAnswer d queue file = After tests file (IsCallersGiven d queue)
