-- A ring buffer in memory that two harts share, wherever its parts lie, and what the words of its places are.
use Rattle.std.specs.Prelude.{ℕ, ◌≡◌, ◌≢◌, ◌⊎◌, ◌+◌, ◌-◌, ◌*◌, ◌%◌, ◌^◌, ◌<◌, ◌≤◌, ◌==◌, ◌&&◌, not, Bool, nat_lt, if◌then◌else◌, Option, Some, List, []}
use Rattle.std.specs.Prelude.{length}
use Rattle.std.specs.List.{filter}
use Rattle.memory.specs.declared.writes.Write.{Write}
use Rattle.step_machine.specs.declared.events.Entry.{Entry}
use Rattle.step_machine.specs.History.{OpeningValue}
use Rattle.step_machine.specs.Entries.{pending, memory_word}
use Rattle.queue_parties.specs.Positions.{numbers_from}

-- the two kinds of protocol. In Lamport's each party reads the other's index, or the sender its copy of it. In FastForward's a slot that holds 0 is free, so
-- no party reads the other's index, and no word is 0
pub data Kind : Type 0 where
  lamport : Kind
  fastforward : Kind

-- its kind; the slot that the receiver's index stands at when a run begins, and how many words wait in it there; the harts that send
-- and receive; where the block begins and ends; the words that hold the sender's index and the receiver's, as byte offsets among the
-- slots; where the slots begin, and how many they are; and the word in which the sender keeps a copy of the tail, if it keeps one.
-- Nothing says in which order these lie, nor how far apart, so each index may have a cache line of its own
pub record RingBuffer : Type 0 where
  pub kind : Kind
  pub start : ℕ
  pub begins_with : ℕ
  pub sender : ℕ
  pub receiver : ℕ
  pub first : ℕ
  pub end : ℕ
  pub head : ℕ
  pub tail : ℕ
  pub slots : ℕ
  pub size : ℕ
  pub copy : Option ℕ

-- a word of the block, other than the sender's copy of the tail
pub record IsWordIn (r : RingBuffer) (a : ℕ) : Type 0 where
  pub above : r.first ≤ a
  pub below : a + 4 ≤ r.end
  pub aligned : a % 4 ≡ 0
  pub no_copy : (c : ℕ) → r.copy ≡ Some c → (c + 4 ≤ a) ⊎ (a + 4 ≤ c)

-- the sender's copy of the tail is a word of Lamport's block, apart from the slots
pub record IsCopyIn (r : RingBuffer) (c : ℕ) : Type 0 where
  pub kind : r.kind ≡ lamport
  pub above : r.first ≤ c
  pub below : c + 4 ≤ r.end
  pub apart : (c + 4 ≤ r.slots) ⊎ (r.slots + 4 * r.size ≤ c)

pub record IsRingBuffer (r : RingBuffer) : Type 0 where
  pub parties : r.sender ≢ r.receiver
  pub some_slots : 1 ≤ r.size
  pub head : IsWordIn r r.head
  pub tail : IsWordIn r r.tail
  pub slots_above : r.first ≤ r.slots
  pub slots_below : r.slots + 4 * r.size ≤ r.end
  pub slots_aligned : r.slots % 4 ≡ 0
  pub apart : r.head ≢ r.tail
  pub head_apart : (r.head + 4 ≤ r.slots) ⊎ (r.slots + 4 * r.size ≤ r.head)
  pub tail_apart : (r.tail + 4 ≤ r.slots) ⊎ (r.slots + 4 * r.size ≤ r.tail)
  pub small : 4 * r.size ≤ 2 ^ 32
  pub copy : (c : ℕ) → r.copy ≡ Some c → IsCopyIn r c

-- the offset of word j of a run among the slots, its slot, and the offset after one
abbrev pub slot_offset : RingBuffer → ℕ → ℕ
slot_offset r j = 4 * ((r.start + j) % r.size)

abbrev pub slot_address : RingBuffer → ℕ → ℕ
slot_address r j = r.slots + slot_offset r j

abbrev pub next : RingBuffer → ℕ → ℕ
next r u = if u + 4 == 4 * r.size then 0 else u + 4

-- how many words a queue of this size holds. In Lamport's one slot stays free: if all were full, the indices would be as in
-- an empty queue
abbrev pub capacity_of : Kind → (size : ℕ) → ℕ
capacity_of lamport size = size - 1
capacity_of fastforward size = size

-- how many words this queue holds
abbrev pub capacity : RingBuffer → ℕ
capacity r = capacity_of r.kind r.size

-- a write of some byte of the block
abbrev pub overlaps : RingBuffer → Write → Bool
overlaps r w = nat_lt w.addr r.end && nat_lt r.first (w.addr + w.width)

abbrev pub writes_to : RingBuffer → List Write → List Write
writes_to r ws = filter (overlaps r) ws

-- a write into a slot
abbrev pub is_in_slots : RingBuffer → Write → Bool
is_in_slots r w = nat_lt w.addr (r.slots + 4 * r.size) && not (nat_lt w.addr r.slots)

-- by which store the sender makes a word available, once it has landed: Lamport's by that of the head, FastForward's by that of the
-- word into its slot
abbrev pub publishes : Kind → RingBuffer → Write → Bool
publishes lamport r w = w.addr == r.head
publishes fastforward r w = is_in_slots r w

-- and by which the receiver frees a slot: Lamport's by that of the tail, FastForward's by that of the 0 into that slot
abbrev pub releases : Kind → RingBuffer → Write → Bool
releases lamport r w = w.addr == r.tail
releases fastforward r w = is_in_slots r w

-- how many words these stores of the sender's hold back while they are pending, and how many slots these of the receiver's
abbrev pub unpublished : RingBuffer → List Write → ℕ
unpublished r ws = length (filter (publishes r.kind r) (writes_to r ws))

abbrev pub unreleased : RingBuffer → List Write → ℕ
unreleased r ws = length (filter (releases r.kind r) (writes_to r ws))

-- the words that wait in the queue where a run begins, in the slots from the receiver's index on
abbrev pub waiting_words : RingBuffer → OpeningValue → List Entry → List ℕ
waiting_words r o es = numbers_from (λ j. memory_word o es (slot_address r j)) 0 r.begins_with

-- the block is at rest: its indices are the offsets of the first word that waits and of the slot after the last, no hart has a pending
-- store to the block, a slot of FastForward's holds 0 just where no word waits in it, and a copy of the tail is the tail, or the offset
-- of a slot from the one after the head on up to it: any slot's, if no word waits. So a machine may open, with zeros, or a program may
-- leave it so at any point of its run
pub record IsQuiescent (r : RingBuffer) (o : OpeningValue) (es : List Entry) : Type 0 where
  pub fits : r.begins_with ≤ capacity r
  pub head : memory_word o es r.head ≡ slot_offset r r.begins_with
  pub tail : memory_word o es r.tail ≡ slot_offset r 0
  pub pending : (h : ℕ) → writes_to r (pending h es) ≡ []
  pub words : r.kind ≡ fastforward → (j : ℕ) → j < r.begins_with → memory_word o es (slot_address r j) ≢ 0
  pub free : r.kind ≡ fastforward → (j : ℕ) → r.begins_with ≤ j → j < r.size → memory_word o es (slot_address r j) ≡ 0
  pub copy : (c : ℕ) → r.copy ≡ Some c → (j : ℕ) × (r.begins_with < j) × (j ≤ r.size) × (memory_word o es c ≡ slot_offset r j)
