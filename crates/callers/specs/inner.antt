-- What serves the proofs alone, where a private contract names it.
use Rattle.std.specs.Prelude.{ℕ, ◌≡◌, ◌<◌, ◌+◌, List, [], ◌++◌, length, ◌^◌, ◌==◌, ◌&&◌, min, Bool, false, if◌then◌else◌, slice_index, Option, None, Some}
use Rattle.step_machine.specs.History.{OpeningValue, History}
use Rattle.step_machine.specs.Entries.{memory_word, hart_of}
use Rattle.callers.specs.Queues.{start_in, waiting_in, spsc_of}
use Rattle.callers.specs.Violations.{IsOffset, AreAsOwedBelow, first_caller_violation, idle_violation}
use Rattle.callers.specs.declared.queue.Queue.{Queue}
use Rattle.callers.specs.declared.locating.Waiting.{Waiting}
use Rattle.callers.specs.declared.violations.CallerViolation.{CallerViolation}
use Rattle.callers.specs.declared.violations.CallerViolation.TheVariants as violation
use Rattle.std.specs.Option.{option_or}
use Rattle.hart.specs.State.{HartState}
use Rattle.step_machine.specs.declared.events.Entry.{Entry}
use Rattle.step_machine.specs.declared.events.Event.{Event}
use Rattle.step_machine.specs.declared.events.Outcome.{Outcome}
use Rattle.step_machine.specs.Runs.{Happens}
use Rattle.spsc_queue.specs.Calls.{SpscQueue, is_in_call_after, is_sender_in_call, is_receiver_in_call}
use Rattle.judged_runs.specs.Telling.{MOST}
use Rattle.callers.specs.Counts.{AreCalls, returns_now}
use Rattle.callers.specs.declared.queue.Located.{Located}
use Rattle.callers.specs.declared.judging.Calls.{Calls}
use Rattle.callers.specs.declared.judging.CallState.{CallState}
use Rattle.callers.specs.declared.judging.Notes.{Notes}

-- these words stand in this code from line n on
pub record StandsAt (words code : List ℕ) (n : ℕ) : Type 0 where
  pub front : List ℕ
  pub back : List ℕ
  pub is : code ≡ front ++ (words ++ back)
  pub place : length front ≡ n

-- a violation of the indices, the first that is asked for
abbrev pub IsFirstOfIndices : OpeningValue → Queue → CallerViolation → Type 0
IsFirstOfIndices o q (violation.NoOffset a w) = a ≡ q.base + 64 → IsOffset q (memory_word o [] q.base)
IsFirstOfIndices o q other = ⊥

-- a violation of what is owed beside them
abbrev pub IsFirstOfRest : OpeningValue → Queue → CallerViolation → Type 0
IsFirstOfRest o q (violation.NoCopy a w) = Unit {0}
IsFirstOfRest o q (violation.NotFree a w) = AreAsOwedBelow o q a
IsFirstOfRest o q (violation.NoWord a) = AreAsOwedBelow o q a
IsFirstOfRest o q other = ⊥

-- from which slot on words wait where the queue begins, and how many
pub record IsWaiting (o : OpeningValue) (q : Queue) (w : Waiting) : Type 0 where
  pub start : w.start ≡ start_in o q
  pub among : w.start < q.slots
  pub count : w.count ≡ waiting_in o q
  pub head : IsOffset q (memory_word o [] q.base)
  pub tail : IsOffset q (memory_word o [] (q.base + 64))

-- ---- what is noted of a run as its entries come

-- what a call depends on in this state of a hart
pub record IsCallState (s : HartState) (c : CallState) : Type 0 where
  pub pc : s.pc ≡ c.pc
  pub back : slice_index s.registers 1 ≡ c.back
  pub block : slice_index s.registers 10 ≡ c.block
  pub word : slice_index s.registers 11 ≡ c.word
  pub bytes : slice_index s.registers 12 ≡ c.bytes
  pub back_is_word : slice_index s.registers 1 < 2 ^ 32
  pub word_is_word : slice_index s.registers 11 < 2 ^ 32

-- what is noted after these entries: the first violation, if there is one, whether each party is in a call, and how many calls returned
pub record AreCallNotes (M : ℕ) (o : OpeningValue) (q : SpscQueue) (es : List Entry) (notes : Notes) : Type 0 where
  pub found : notes.found ≡ first_caller_violation M o q es
  pub sending : notes.sending ≡ is_sender_in_call M o q [] es
  pub receiving : notes.receiving ≡ is_receiver_in_call M o q [] es
  pub calls : AreCalls M o q es notes.calls

-- whether a hart is in its call, by what is noted
abbrev pub noted_call : SpscQueue → Notes → (h : ℕ) → Bool
noted_call q notes h = if h == q.sender then notes.sending else (if h == q.receiver then notes.receiving else false)

-- what is owed first with an entry more, by which its hart goes from state s to state z
abbrev pub found_by : SpscQueue → Notes → Entry → (s z : HartState) → Option CallerViolation
found_by q notes e s z = option_or notes.found (if noted_call q notes (hart_of e) then None else idle_violation q e (Some s) (Some z))

-- one more call, if the hart of this party in state s returns from one with this number in a0
abbrev pub counted_by : (is_party : Bool) → (n number : ℕ) → Bool → HartState → (count : ℕ) → ℕ
counted_by is_party n number calling s count = if is_party && returns_now n number calling s then min (count + 1) MOST else count

abbrev pub calls_by : SpscQueue → Notes → Entry → HartState → Calls
calls_by q notes e s = record {
  sent = counted_by (hart_of e == q.sender) q.send_line 1 notes.sending s notes.calls.sent;
  full = counted_by (hart_of e == q.sender) q.send_line 0 notes.sending s notes.calls.full;
  received = counted_by (hart_of e == q.receiver) q.receive_line 1 notes.receiving s notes.calls.received;
  empty = counted_by (hart_of e == q.receiver) q.receive_line 0 notes.receiving s notes.calls.empty;
}

-- what is noted then
abbrev pub notes_by : SpscQueue → Notes → Entry → (s z : HartState) → Notes
notes_by q notes e s z = record {
  found = found_by q notes e s z;
  sending = if hart_of e == q.sender then is_in_call_after q.send_line q.block notes.sending s z else notes.sending;
  receiving = if hart_of e == q.receiver then is_in_call_after q.receive_line q.block notes.receiving s z else notes.receiving;
  calls = calls_by q notes e s;
}

-- an event made a history of this one, and what was noted of this one became what is noted of the new one
pub record IsEventNoted (B M : ℕ) (l : Located) (ev : Event) (t : History) (notes : Notes) (u : History) (new : Notes) : Type 0 where
  pub outcome : Outcome
  pub happens : Happens B M t ev outcome u
  pub noted : AreCallNotes M t.opening (spsc_of l) t.entries notes → AreCallNotes M t.opening (spsc_of l) u.entries new
