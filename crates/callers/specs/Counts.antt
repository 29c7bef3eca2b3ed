-- What runs of callers count to: how many calls returned, and how many runs weren't finished.
use Rattle.std.specs.Prelude.{ℕ, ◌≡◌, ◌+◌, ◌==◌, ◌&&◌, if◌then◌else◌, Bool, false, min, Option, None, Some, List, [], ◌∷◌, ◌++◌, ◌⊎◌, slice_index}
use Rattle.hart.specs.State.{HartState}
use Rattle.step_machine.specs.declared.events.Entry.{Entry}
use Rattle.step_machine.specs.declared.events.Event.{Event}
use Rattle.step_machine.specs.Entries.{is_own}
use Rattle.step_machine.specs.History.{OpeningValue, History, history_of}
use Rattle.step_machine.specs.Paths.{state_of}
use Rattle.step_machine.specs.Runs.{Run}
use Rattle.litmus.specs.Verdicts.{IsFinished}
use Rattle.litmus.specs.declared.verdict.Verdict.{Verdict}
use Rattle.litmus.specs.declared.verdict.Verdict.TheVariants.{Holds, Fails, Unfinished}
use Rattle.spsc_queue.specs.Calls.{Block, SpscQueue, returns_at, is_in_call_with}
use Rattle.judged_runs.specs.Telling.{AreRuns, MOST, summed}
use Rattle.callers.specs.Queues.{spsc_of}
use Rattle.callers.specs.declared.counts.Counts.{Counts}
use Rattle.callers.specs.declared.judging.Calls.{Calls}
use Rattle.callers.specs.declared.queue.Located.{Located}

-- ---- of one run

-- whether a hart in this state returns with this number in a0, where it is in a call of the function at line n or not
abbrev pub returns_now : (n number : ℕ) → Bool → HartState → Bool
returns_now n number b s = b && returns_at n s && (slice_index s.registers 10 == number)

abbrev pub returns_in : (n number : ℕ) → Bool → Option HartState → Bool
returns_in n number b None = false
returns_in n number b (Some s) = returns_now n number b s

abbrev pub returned_by : (M : ℕ) → OpeningValue → (h n number : ℕ) → Bool → List Entry → Entry → ℕ
returned_by M o h n number b front e = if is_own h e && returns_in n number b (state_of M (history_of o front) h) then 1 else 0

abbrev pub returned_from : (M : ℕ) → OpeningValue → (h n : ℕ) → Block → (number : ℕ) → Bool → (front es : List Entry) → ℕ
returned_from M o h n k number b front [] = 0
returned_from M o h n k number b front (e ∷ es) =
    returned_by M o h n number b front e + returned_from M o h n k number (is_in_call_with M o h n k b front e) (front ++ e ∷ []) es

-- how many of hart h's calls for this block, of the function at line n, returned with this number in a0
abbrev pub returned : (M : ℕ) → OpeningValue → (h n : ℕ) → Block → (number : ℕ) → List Entry → ℕ
returned M o h n k number es = returned_from M o h n k number false [] es

-- of the calls that send, and of those that receive: with 1 a word was sent or received, with 0 the queue was found full or empty
abbrev pub sends : (M : ℕ) → OpeningValue → SpscQueue → (number : ℕ) → List Entry → ℕ
sends M o q number es = returned M o q.sender q.send_line q.block number es

abbrev pub receives : (M : ℕ) → OpeningValue → SpscQueue → (number : ℕ) → List Entry → ℕ
receives M o q number es = returned M o q.receiver q.receive_line q.block number es

pub record AreCalls (M : ℕ) (o : OpeningValue) (q : SpscQueue) (es : List Entry) (calls : Calls) : Type 0 where
  pub sent : calls.sent ≡ min (sends M o q 1 es) MOST
  pub full : calls.full ≡ min (sends M o q 0 es) MOST
  pub received : calls.received ≡ min (receives M o q 1 es) MOST
  pub empty : calls.empty ≡ min (receives M o q 0 es) MOST

-- the history is the run of these events, in which these calls returned
pub record HasCalls (B M : ℕ) (o : OpeningValue) (l : Located) (events : List Event) (history : History) (calls : Calls) : Type 0 where
  pub run : Run B M o events history
  pub are : AreCalls M o (spsc_of l) history.entries calls

-- ---- of many

-- this many of the runs aren't finished
abbrev pub HaveUnfinished : (M : ℕ) → List History → ℕ → Type 0
HaveUnfinished M [] n = n ≡ 0
HaveUnfinished M (t ∷ ts) n = (IsFinished M t × HaveUnfinished M ts n) ⊎ ((IsFinished M t → ⊥) × (m : ℕ) × (n ≡ m + 1) × HaveUnfinished M ts m)

-- how many of one run that is judged so
abbrev pub unfinished_by : Verdict → ℕ
unfinished_by Holds = 0
unfinished_by Fails = 0
unfinished_by Unfinished = 1

pub record AreTotalCalls (M : ℕ) (o : OpeningValue) (q : SpscQueue) (ts : List History) (calls : Calls) : Type 0 where
  pub sent : calls.sent ≡ min (summed (λ t. sends M o q 1 t.entries) ts) MOST
  pub full : calls.full ≡ min (summed (λ t. sends M o q 0 t.entries) ts) MOST
  pub received : calls.received ≡ min (summed (λ t. receives M o q 1 t.entries) ts) MOST
  pub empty : calls.empty ≡ min (summed (λ t. receives M o q 0 t.entries) ts) MOST

-- the runs of these lists of events count to this
pub record AreCountsOf (B M : ℕ) (o : OpeningValue) (l : Located) (all : List (List Event)) (counts : Counts) : Type 0 where
  pub histories : List History
  pub runs : AreRuns B M o all histories
  pub calls : AreTotalCalls M o (spsc_of l) histories counts.calls
  pub unfinished : HaveUnfinished M histories counts.unfinished

abbrev pub calls_both : Calls → Calls → Calls
calls_both calls more = record {
  sent = min (calls.sent + more.sent) MOST;
  full = min (calls.full + more.full) MOST;
  received = min (calls.received + more.received) MOST;
  empty = min (calls.empty + more.empty) MOST;
}

-- no call returned
abbrev pub are_none : Calls → Bool
are_none calls = (calls.sent == 0) && (calls.full == 0) && (calls.received == 0) && (calls.empty == 0)
