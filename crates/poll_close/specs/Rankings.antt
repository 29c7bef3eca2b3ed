-- How far a channel is from its end: what the law of `Finish` speaks of. It serves the proof that a plan
-- ends; what a plan does is defined in Plans.
use Rattle.std.specs.Prelude.{ℕ, ◌≡◌, ◌+◌, ◌-◌, ◌*◌, ◌/◌, ◌≤◌, ◌<◌, ◌==◌, true, false, Bool, ◌&&◌, ◌||◌, not}
use Rattle.std.specs.Prelude.{if◌then◌else◌, List, [], ◌∷◌, length, Option, Some, None, zero, suc, slice_index}
use Rattle.std.specs.List.{slice_index_or}
use Rattle.hart.specs.State.{HartState}
use Rattle.hart.specs.declared.status.Status.{Status}
use Rattle.hart.specs.declared.status.Status.TheVariants as status
use Rattle.hart.specs.declared.need.Report.{Report}
use Rattle.step_machine.specs.declared.events.Event.TheVariants as event
use Rattle.step_machine.specs.declared.events.Entry.{Entry}
use Rattle.step_machine.specs.declared.events.Entry.TheVariants as entry
use Rattle.step_machine.specs.History.{HartOpeningValue, OpeningValue, History, with_entry}
use Rattle.step_machine.specs.Entries.{reported}
use Rattle.step_machine.specs.WordReads.{word_in_memory}
use Rattle.step_machine.specs.Paths.{state_of}
use Rattle.step_machine.specs.Runs.{IsFor, CanFollow, NoEntry}
use Rattle.poll_close.specs.Laws.{Ring, Meaning}
use Rattle.poll_close.specs.Reports.{taken}
use Rattle.poll_close.specs.Standing.{Stands, opening_lists}
use Rattle.poll_close.specs.Plans.{is_closed, is_done, senders_of, AllLanded}

-- What the receiver's way depends on, besides its state: the words taken of the sender that it visits, the
-- ring size, whether that sender is reported closed and whether it has ended; and how far it is from its next
-- report from the end of this block on, and from block 0 on.
pub record Around : Type 0 where
  pub took : ℕ
  pub size : ℕ
  pub closed : Bool
  pub ended : Bool
  pub rest : ℕ
  pub start : ℕ

-- What a ring shows of its harts, by their states: how far a sender is from its end; whether it waits, by the
-- words of memory, until the receiver acts; and how far the receiver is from its next report, where every
-- sender waits or has ended.
pub record Ranking : Type 0 where
  pub sender : HartState → ℕ
  pub waits : HartState → (ℕ → ℕ) → Bool
  pub receiver : Around → HartState → ℕ

-- some of the m senders from j on is not reported closed
abbrev pub some_open : List Report → ℕ → ℕ → Bool
some_open rs j zero = false
some_open rs j (suc m) = not (is_closed rs j) || some_open rs (suc j) m

-- from block j on, of n: to the next block that is open, in this round or the next
abbrev pub rest_from : List Report → ℕ → ℕ → ℕ
rest_from rs n j = 40 * (n - j) + (if some_open rs j (n - j) then 0 else 40 * (n + 2))

-- the block that it visits: at 70 it has counted on
abbrev pub visited_by : HartState → ℕ
visited_by s = if s.pc == 0x70 then slice_index s.registers 22 - 1 else slice_index s.registers 22

abbrev pub is_running : Status → Bool
is_running status.Running = true
is_running status.Ended = false
is_running (status.Stopped why) = false

abbrev pub runs : Option HartState → Bool
runs None = false
runs (Some s) = is_running s.status

-- the receiver's distance, by the reports and the harts' states
abbrev pub around : ℕ → ℕ → List Report → Option HartState → ℕ → Around
around n size rs sender i = record {
  took = length (taken rs i);
  size = size;
  closed = is_closed rs i;
  ended = not (runs sender);
  rest = rest_from rs n (i + 1);
  start = rest_from rs n 0;
}

abbrev pub receiver_rank : Ranking → ℕ → ℕ → List Report → (ℕ → Option HartState) → HartState → ℕ
receiver_rank p n size rs states s = p.receiver (around n size rs (states (visited_by s + 1)) (visited_by s)) s

abbrev pub receiver_rank_if : Ranking → ℕ → ℕ → List Report → (ℕ → Option HartState) → Option HartState → ℕ
receiver_rank_if p n size rs states None = 0
receiver_rank_if p n size rs states (Some s) = receiver_rank p n size rs states s

abbrev pub sender_if : Ranking → Option HartState → ℕ
sender_if p None = 0
sender_if p (Some s) = p.sender s

abbrev pub one_if : Bool → ℕ
one_if true = 1
one_if false = 0

-- what is left of one sender: the reports still to come of it, and its own way to its end
abbrev pub share : Ranking → List (List ℕ) → List Report → (ℕ → Option HartState) → ℕ → ℕ
share p lists rs states i = (length (slice_index_or lists i []) + 1 - (length (taken rs i) + one_if (is_closed rs i))) + sender_if p (states (i + 1))

abbrev pub total : (ℕ → ℕ) → ℕ → ℕ
total f zero = 0
total f (suc i) = f i + total f i

-- more than the receiver is ever away
abbrev pub round : ℕ → ℕ
round n = 200 * (n + 1)

abbrev pub rank_by_states : Ranking → ℕ → ℕ → List (List ℕ) → List Report → (ℕ → Option HartState) → ℕ
rank_by_states p n size lists rs states = total (share p lists rs states) n * round n + receiver_rank_if p n size rs states (states 0)

abbrev pub ring_bytes : List HartOpeningValue → ℕ
ring_bytes [] = 0
ring_bytes (h ∷ hs) = slice_index h.registers 9

abbrev pub ring_size : OpeningValue → ℕ
ring_size o = ring_bytes o.harts / 4

-- how much is left, by states and reports alone
abbrev pub rank_of : Ranking → ℕ → History → ℕ
rank_of p M t = rank_by_states p (senders_of t) (ring_size t.opening) (opening_lists t.opening) (reported 0 t.entries) (λ h. state_of M t h)

-- hart h is a sender that runs and does not wait
abbrev pub ready_if : Ranking → (ℕ → ℕ) → Option HartState → Bool
ready_if p word None = false
ready_if p word (Some s) = is_running s.status && not (p.waits s word)

abbrev pub is_ready : Ranking → ℕ → History → ℕ → Bool
is_ready p M t h = ready_if p (word_in_memory t.opening t.entries) (state_of M t h)

-- the last of senders 1 to i that is ready, or the receiver
abbrev pub next_of : (ℕ → Bool) → ℕ → ℕ
next_of ready zero = 0
next_of ready (suc i) = if ready (suc i) then suc i else next_of ready i

abbrev pub next_by : Ranking → ℕ → History → ℕ
next_by p M t = next_of (is_ready p M t) (senders_of t)

-- the hart can act, and with its act, and the landing of what it stores, less is left
pub record Nearer (B M : ℕ) (left : History → ℕ) (t : History) (h : ℕ) : Type 0 where
  pub hart : h < length t.opening.harts
  pub acts : NoEntry B M t (event.Act h) → ⊥
  pub alone : (e : Entry) → IsFor (event.Act h) e → CanFollow B M t e → left (with_entry t e) < left t
  pub landed : (u : History) → left (with_entry u (entry.Land h)) ≡ left u

unfoldable pub Decreases : Ring → Meaning → (ℕ → History → ℕ) → (ℕ → History → ℕ) → Type 0
Decreases ring means left next = (B M : ℕ) (t : History) → 1 ≤ B → Stands ring means B M t → AllLanded t → is_done t ≡ false → Nearer B M (left M) t (next M t)
