-- A queue that code of two harts calls the functions for, as it is asked for: its kind, where its block lies, and which harts
-- send and receive.
use Rattle.std.specs.Prelude.{ℕ, ◌≡◌, ◌≢◌, ◌<◌, ◌+◌, ◌-◌, ◌*◌, ◌/◌, ◌%◌, ◌==◌, if◌then◌else◌, Bool, true, false, List, []}
use Rattle.step_machine.specs.History.{OpeningValue}
use Rattle.step_machine.specs.Entries.{memory_word}
use Rattle.spsc_queue.specs.RingBuffers.{Kind, lamport, fastforward, IsQuiescent}
use Rattle.rv_decode.specs.Listings.{Listed}
use Rattle.spsc_queue.specs.Calls.{Block, SpscQueue, the_sender, the_receiver, listing_of, IsBlock, buffer, HasFunction}
use Rattle.callers.specs.declared.queue.QueueKind.{QueueKind}
use Rattle.callers.specs.declared.queue.QueueKind.TheVariants as kind
use Rattle.callers.specs.declared.queue.Queue.{Queue}
use Rattle.callers.specs.declared.queue.Located.{Located}

abbrev pub kind_of : QueueKind → Kind
kind_of kind.Lamport = lamport
kind_of kind.Cached = lamport
kind_of kind.FastForward = fastforward

-- whether the sender of such a queue keeps a copy of the tail
abbrev pub caches_tail : QueueKind → Bool
caches_tail kind.Lamport = false
caches_tail kind.Cached = true
caches_tail kind.FastForward = false

-- the queue's block, whose receiver's index opens at slot `start`, and in which `waiting` words wait
abbrev pub block_at : Queue → (start waiting : ℕ) → Block
block_at q start waiting =
    record { kind = kind_of q.kind; caches = caches_tail q.kind; base = q.base; size = q.slots; start = start; begins_with = waiting }

abbrev pub block_of : Located → Block
block_of l = block_at l.queue l.start l.waiting

-- how many slots slot j comes after slot `start`, round the end of S slots
abbrev pub slots_after : (S start j : ℕ) → ℕ
slots_after S start j = (j + S - start) % S

-- how many words wait from slot `start` on where the sender's index stands at slot `end`. If both are one slot, FastForward's tells by its
-- word whether it is full or empty
abbrev pub waiting_between : Kind → (S start end word : ℕ) → ℕ
waiting_between lamport S start end word = slots_after S start end
waiting_between fastforward S start end word = if start == end then (if word == 0 then 0 else S) else slots_after S start end

-- at which slot the receiver's index opens, if it is an offset, and how many words wait then
abbrev pub start_in : OpeningValue → Queue → ℕ
start_in o q = memory_word o [] (q.base + 64) / 4

abbrev pub waiting_in : OpeningValue → Queue → ℕ
waiting_in o q = waiting_between (kind_of q.kind) q.slots (start_in o q) (memory_word o [] q.base / 4) (memory_word o [] (q.base + 128 + 4 * start_in o q))

-- the functions that a queue's sender and its receiver call
abbrev pub sends_by : QueueKind → List Listed
sends_by k = listing_of (kind_of k) (caches_tail k) the_sender

abbrev pub receives_by : QueueKind → List Listed
receives_by k = listing_of (kind_of k) (caches_tail k) the_receiver

-- the queue with the slot that its receiver's index opens at, the words that wait, and the lines at which the functions begin
abbrev pub spsc_of : Located → SpscQueue
spsc_of l = record {
  block = block_of l;
  sender = l.queue.sender;
  receiver = l.queue.receiver;
  send_line = l.send_line;
  receive_line = l.receive_line;
}

-- hart h has this function nowhere in its code, or there is no such hart
abbrev pub HasNoCopy : OpeningValue → (h : ℕ) → List Listed → Type 0
HasNoCopy o h listing = (n : ℕ) → HasFunction o h n listing → ⊥

-- line n is where the first copy of this function begins in hart h's code
pub record HasFirstCopy (o : OpeningValue) (h n : ℕ) (listing : List Listed) : Type 0 where
  pub here : HasFunction o h n listing
  pub first : (m : ℕ) → m < n → HasFunction o h m listing → ⊥

-- the queue can be used from this opening on: all that a caller owes where the queue begins is so, the receiver's index opens at this
-- slot, `waiting` words wait, and the lines are those of the first copies
pub record IsLocated (M : ℕ) (o : OpeningValue) (queue : Queue) (l : Located) : Type 0 where
  pub queue_is : l.queue ≡ queue
  pub block : IsBlock M (block_of l)
  pub parties : l.queue.sender ≢ l.queue.receiver
  pub start : l.start < l.queue.slots
  pub waiting : l.waiting ≡ waiting_in o l.queue
  pub rest : IsQuiescent (buffer (spsc_of l)) o []
  pub sends : HasFirstCopy o l.queue.sender l.send_line (sends_by l.queue.kind)
  pub receives : HasFirstCopy o l.queue.receiver l.receive_line (receives_by l.queue.kind)
