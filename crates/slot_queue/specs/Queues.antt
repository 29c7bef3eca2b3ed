-- A queue between two harts as two indices and slots: where its parts lie, and how the words of its indices stand for counts.
use Rattle.std.specs.Prelude.{ℕ, ◌≡◌, ◌≢◌, ◌⊎◌, ◌+◌, ◌-◌, ◌*◌, ◌/◌, ◌%◌, ◌^◌, ◌<◌, ◌≤◌, List, All, true}
use Rattle.memory.specs.declared.writes.Write.{Write}
use Rattle.memory.specs.Writes.{covers}
use Rattle.step_machine.specs.declared.events.Entry.{Entry}
use Rattle.step_machine.specs.History.{OpeningValue}
use Rattle.step_machine.specs.Entries.{pending}
use Rattle.store_buffers.specs.StoreBuffers.{memory_number}
use Rattle.queue_parties.specs.Parties.{QueueCounts, IsWindow}
use Rattle.queue_parties.specs.Positions.{IsInBytes, slot_from}

-- The harts that send and receive; the places of the sender's index and the receiver's, and how many bytes either has; where the
-- slots begin, how many they are, and how many bytes one has; how many of them may be in use at once; and how an index stands for a
-- count: count n is the number base + scale * ((n + offset) % modulus).
--
-- An index that counts in a word has modulus 2 ^ 32, base 0, scale 1 and offset 0. One that is the number of a slot has the number of
-- slots for modulus, one that counts modulo twice that the double, and a byte offset among the slots has their width for scale. A
-- pointer to a slot has the slots' address for base besides, and a sequence number that begins with -1 the modulus less one for offset
pub record Queue : Type 0 where
  pub sender : ℕ
  pub receiver : ℕ
  pub head : ℕ
  pub tail : ℕ
  pub index_width : ℕ
  pub slots : ℕ
  pub size : ℕ
  pub width : ℕ
  pub capacity : ℕ
  pub base : ℕ
  pub scale : ℕ
  pub offset : ℕ
  pub modulus : ℕ

-- what an index holds that stands for count n
abbrev pub index_word : Queue → (n : ℕ) → ℕ
index_word q n = q.base + q.scale * ((n + q.offset) % q.modulus)

-- the least count from n on that v stands for
abbrev pub least_count : Queue → (n v : ℕ) → ℕ
least_count q n v = n + ((v - q.base) / q.scale + (q.modulus - (n + q.offset) % q.modulus)) % q.modulus

-- position k of the queue lies in slot k % size: x is one of its bytes
abbrev pub slot_of : Queue → (k : ℕ) → ℕ
slot_of q k = slot_from q.slots q.width q.size k

abbrev pub IsByteOf : Queue → (k x : ℕ) → Type 0
IsByteOf q k x = IsInBytes (slot_of q k) q.width x

-- x is no byte of the queue
pub record IsOutside (q : Queue) (x : ℕ) : Type 0 where
  pub head : IsInBytes q.head q.index_width x → ⊥
  pub tail : IsInBytes q.tail q.index_width x → ⊥
  pub slots : IsInBytes q.slots (q.size * q.width) x → ⊥

-- two harts; two indices and the slots, of which no byte is another's; no more in use than there are slots; and an index whose words
-- fit into its bytes
pub record IsQueue (q : Queue) : Type 0 where
  pub parties : q.sender ≢ q.receiver
  pub apart : (q.head + q.index_width ≤ q.tail) ⊎ (q.tail + q.index_width ≤ q.head)
  pub head_apart : (q.head + q.index_width ≤ q.slots) ⊎ (q.slots + q.size * q.width ≤ q.head)
  pub tail_apart : (q.tail + q.index_width ≤ q.slots) ⊎ (q.slots + q.size * q.width ≤ q.tail)
  pub some : 1 ≤ q.size
  pub fits : q.capacity ≤ q.size
  pub words : 1 ≤ q.modulus
  pub scale : 1 ≤ q.scale
  pub some_bytes : 1 ≤ q.index_width
  pub small : q.base + q.scale * (q.modulus - 1) < 256 ^ q.index_width

-- the index tells all that may be in use from none. Nothing else than what a look says asks this: a party that can't tell sees the
-- fewer
abbrev pub TellsFull : Queue → Type 0
TellsFull q = q.capacity < q.modulus

-- a write that is of no byte of the queue
abbrev pub KeepsOff : Queue → Write → Type 0
KeepsOff q w = (x : ℕ) → covers w x ≡ true → IsOutside q x

-- no hart has a pending store to the queue, both indices in memory stand for the counts, and what the parties know is within the
-- window: a run may be followed from here. Records may wait, which are published and not taken
pub record IsAtRest (q : Queue) (o : OpeningValue) (es : List Entry) (c : QueueCounts) : Type 0 where
  pub window : IsWindow q.capacity c
  pub head : memory_number o es q.head q.index_width ≡ index_word q c.published
  pub tail : memory_number o es q.tail q.index_width ≡ index_word q c.taken
  pub pending : (h : ℕ) → All (KeepsOff q) (pending h es)
