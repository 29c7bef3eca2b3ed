-- Short runs of harts that use a queue of two slots at address 64, of each kind, whose indices stand at the second slot: calls by which
-- a word passes and an index wraps, calls that find the queue full or empty, a send after other harts have used it, and a receive after
-- others have filled it. Each hart makes a0 the block, enters its function, and returns to where it began.
use Rattle.std.specs.Prelude.{ℕ, ◌+◌, Bool, true, false, Option, Some, None, List, [], ◌∷◌, ◌++◌, replicate}
use Rattle.hart.specs.State.{HartState}
use Rattle.hart.specs.Steps.{need_of}
use Rattle.hart.specs.declared.need.Need.{Need}
use Rattle.hart.specs.declared.need.Need.TheVariants as need
use Rattle.step_machine.specs.declared.events.Entry.{Entry}
use Rattle.step_machine.specs.declared.events.Entry.TheVariants as entry
use Rattle.step_machine.specs.declared.events.Event.{Event}
use Rattle.step_machine.specs.declared.events.Event.TheVariants as event
use Rattle.step_machine.specs.History.{HartOpeningValue, OpeningValue, history_of}
use Rattle.step_machine.specs.Entries.{own, read}
use Rattle.step_machine.specs.Paths.{entry_of, opens_as, after_entries, state_of}
use Rattle.spsc_queue.specs.RingBuffers.{Kind, lamport, fastforward}
use Rattle.rv_decode.specs.Listings.{words_of}
use Rattle.spsc_queue.specs.Calls.{SpscQueue, Party, the_sender, the_receiver, party_hart, listing_of}

-- ---- the entries that events make

-- what a hart reads that wants this, after these entries
abbrev pub value_at : OpeningValue → List Entry → (h : ℕ) → Need → ℕ
value_at o es h (need.Load a width) = read o es h a width
value_at o es h other = 0

-- the entry of an event of a hart that runs, and wants nothing of memory, a load or a store
abbrev pub entry_in : OpeningValue → List Entry → (h : ℕ) → Option HartState → Entry
entry_in o es h None = entry.Land h
entry_in o es h (Some s) = entry_of h (need_of s) (value_at o es h (need_of s))

abbrev pub entry_by : (M : ℕ) → OpeningValue → List Entry → Event → Entry
entry_by M o es (event.Act h) = entry_in o es h (state_of M (history_of o es) h)
entry_by M o es (event.Land h) = entry.Land h

abbrev pub entries_by : (M : ℕ) → OpeningValue → (front : List Entry) → List Event → List Entry
entries_by M o front [] = []
entries_by M o front (ev ∷ evs) = entry_by M o front ev ∷ entries_by M o (front ++ entry_by M o front ev ∷ []) evs

-- n acts of a hart, and n landings
abbrev pub acts : (h n : ℕ) → List Event
acts h n = replicate n (event.Act h)

abbrev pub landings : (h n : ℕ) → List Event
landings h n = replicate n (event.Land h)

-- ---- the runs

-- Lamport's queue, that with a copy of the tail, and FastForward's
pub data Variant : Type 0 where
  plain : Variant
  caching : Variant
  fast : Variant

abbrev pub kind_of : Variant → Kind
kind_of plain = lamport
kind_of caching = lamport
kind_of fast = fastforward

abbrev pub caches_of : Variant → Bool
caches_of plain = false
caches_of caching = true
caches_of fast = false

-- with which call a run ends: a send, whose copy of the tail says that the queue is full, or that there is room (`hits`); a receive of its
-- word; a send that finds the queue full; a receive that finds it empty; a send of a third hart, to a fourth, after a word has
-- passed (FastForward's); and a receive of the fourth's from a queue that the first has filled, from where it is full
pub data Scenario : Type 0 where
  sends : Variant → Scenario
  hits : Scenario
  receives : Variant → Scenario
  finds_full : Variant → Scenario
  finds_empty : Variant → Scenario
  goes_on : Scenario
  takes_over : Variant → Scenario

abbrev pub variant : Scenario → Variant
variant (sends v) = v
variant hits = caching
variant (receives v) = v
variant (finds_full v) = v
variant (finds_empty v) = v
variant goes_on = fast
variant (takes_over v) = v

-- whose call it is
abbrev pub party : Scenario → Party
party (receives v) = the_receiver
party (finds_empty v) = the_receiver
party (takes_over v) = the_receiver
party x = the_sender

-- at which slot the receiver's index stands, how many words wait, and which harts send and receive
abbrev pub start_of : Scenario → ℕ
start_of goes_on = 2
start_of x = 1

abbrev pub held_by : Variant → ℕ
held_by fast = 2
held_by v = 1

abbrev pub waiting_of : Scenario → ℕ
waiting_of (takes_over v) = held_by v
waiting_of x = 0

abbrev pub sender_of : Scenario → ℕ
sender_of goes_on = 2
sender_of (takes_over v) = 2
sender_of x = 0

abbrev pub receiver_of : Scenario → ℕ
receiver_of goes_on = 3
receiver_of (takes_over v) = 3
receiver_of x = 1

abbrev pub queue : Scenario → SpscQueue
queue x = record {
  block = record { kind = kind_of (variant x); caches = caches_of (variant x); base = 64; size = 2; start = start_of x; begins_with = waiting_of x };
  sender = sender_of x;
  receiver = receiver_of x;
  send_line = 1;
  receive_line = 1;
}

-- the instruction before the function makes a0 the block; ra is 0, a1 a word, a2 the bytes of the slots
abbrev pub hart_with : Variant → Party → (word : ℕ) → HartOpeningValue
hart_with v p word = record {
  code = 0x04000513 ∷ words_of (listing_of (kind_of v) (caches_of v) p);
  registers = replicate 11 0 ++ word ∷ 8 ∷ replicate 19 0;
  inbox = [];
}

abbrev pub hart_of_party : Variant → Party → HartOpeningValue
hart_of_party v the_sender = hart_with v the_sender 99
hart_of_party v the_receiver = hart_with v the_receiver 0

-- the indices are the offset of the second slot, and the copy that of the first one, by which the queue looks full, or of the second
abbrev pub copy_opens : Scenario → ℕ
copy_opens hits = 4
copy_opens x = 0

abbrev pub opening : Scenario → OpeningValue
opening x = record {
  harts = hart_of_party (variant x) the_sender ∷ hart_of_party (variant x) the_receiver ∷ hart_of_party (variant x) the_sender
      ∷ hart_of_party (variant x) the_receiver ∷ [];
  words = replicate 16 0 ++ 4 ∷ copy_opens x ∷ (replicate 14 0 ++ 4 ∷ []);
}

-- how many entries the first send makes, and how many stores
abbrev pub send_length : Variant → ℕ
send_length caching = 15
send_length v = 11

abbrev pub send_stores : Variant → ℕ
send_stores caching = 3
send_stores v = 2

-- a word is sent, and lands
abbrev pub word_lands : Variant → List Event
word_lands v = acts 0 (1 + send_length v) ++ landings 0 (send_stores v)

-- what happens before the queue's run begins, in it before the call, and in the call
abbrev pub first_events : Scenario → List Event
first_events goes_on = word_lands fast ++ (acts 1 12 ++ landings 1 2)
first_events (takes_over fast) = word_lands fast ++ word_lands fast
first_events (takes_over v) = word_lands v
first_events x = []

abbrev pub lead_events : Scenario → List Event
lead_events (receives v) = word_lands v ++ acts 1 1
lead_events (finds_full fast) = acts 0 24
lead_events (finds_full v) = acts 0 (2 + send_length v)
lead_events (finds_empty v) = acts 1 1
lead_events goes_on = acts 2 1
lead_events (takes_over v) = acts 3 1
lead_events x = acts 0 1

abbrev pub call_events : Scenario → List Event
call_events (sends v) = acts 0 (send_length v)
call_events hits = acts 0 11
call_events (receives v) = acts 1 11
call_events (finds_full plain) = acts 0 7
call_events (finds_full caching) = acts 0 9
call_events (finds_full fast) = acts 0 6
call_events (finds_empty fast) = acts 1 6
call_events (finds_empty v) = acts 1 5
call_events goes_on = acts 2 10
call_events (takes_over v) = acts 3 11

abbrev pub before_entries : Scenario → List Entry
before_entries x = entries_by 64 (opening x) [] (first_events x)

abbrev pub lead_entries : Scenario → List Entry
lead_entries x = entries_by 64 (opening x) (before_entries x) (lead_events x)

abbrev pub call_entries : Scenario → List Entry
call_entries x = entries_by 64 (opening x) (before_entries x ++ lead_entries x) (call_events x)

abbrev pub entries : Scenario → List Entry
entries x = lead_entries x ++ call_entries x

-- the state of the call's hart after these entries
abbrev pub state_after : Scenario → List Entry → HartState
state_after x es = after_entries (opens_as 64 (hart_of_party (variant x) (party x))) (own (party_hart (queue x) (party x)) es)

-- ---- what comes of them

-- what the call answers, and how many accesses it makes
abbrev pub answer : Scenario → ℕ
answer (finds_full v) = 0
answer (finds_empty v) = 0
answer x = 1

abbrev pub access_count : Scenario → ℕ
access_count (sends caching) = 6
access_count (finds_full caching) = 3
access_count (finds_full v) = 2
access_count (finds_empty v) = 2
access_count x = 4

abbrev pub sent : Scenario → List ℕ
sent (finds_full fast) = 99 ∷ 99 ∷ []
sent (finds_empty v) = []
sent (takes_over v) = []
sent x = 99 ∷ []

abbrev pub received : Scenario → List ℕ
received (receives v) = 99 ∷ []
received (takes_over v) = 99 ∷ []
received x = []
