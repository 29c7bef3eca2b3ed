-- Slots that tell whose they are: a queue between two harts without a shared index. A tag of each slot tells, a part of it or beside it.
use Rattle.std.specs.Prelude.{ℕ, ◌≡◌, ◌≢◌, ◌+◌, ◌-◌, ◌*◌, ◌/◌, ◌%◌, ◌<◌, ◌≤◌, ◌==◌, ◌&&◌, ◌⊎◌, Bool, List, All, true, false}
use Rattle.memory.specs.declared.writes.Write.{Write}
use Rattle.memory.specs.Writes.{covers}
use Rattle.store_buffers.specs.StoreBuffers.{memory_number}
use Rattle.step_machine.specs.declared.events.Entry.{Entry}
use Rattle.step_machine.specs.History.{OpeningValue}
use Rattle.step_machine.specs.Entries.{pending}
use Rattle.queue_parties.specs.Parties.{Party, the_sender, the_receiver, other, QueueCounts, IsWindow, handed_on}
use Rattle.queue_parties.specs.Positions.{IsInBytes, slot_from}

-- The harts that send and receive; where the slots begin, how many they are, and how many bytes one has; where the elements begin that
-- hold the tags, one for each slot, how many bytes one has, and which of these are the tag: the slots themselves, or those of an array
-- beside them; and what a tag tells: `tells the_sender k v` that the slot is free for position k, `tells the_receiver k v` that
-- position k is in it
pub record Slots : Type 0 where
  pub sender : ℕ
  pub receiver : ℕ
  pub slots : ℕ
  pub size : ℕ
  pub width : ℕ
  pub tags : ℕ
  pub tag_stride : ℕ
  pub tag_offset : ℕ
  pub tag_width : ℕ
  pub tells : Party → (k v : ℕ) → Bool

-- how far on the position is that a party's tag hands to the other
abbrev pub gap : Slots → Party → ℕ
gap q p = handed_on q.size p

-- the elements with the tags are the slots, or none of their bytes is a slot's
abbrev pub AreSlots : Slots → Type 0
AreSlots q = (q.tags ≡ q.slots) × (q.tag_stride ≡ q.width)

abbrev pub AreApart : Slots → Type 0
AreApart q = (q.slots + q.size * q.width ≤ q.tags) ⊎ (q.tags + q.size * q.tag_stride ≤ q.slots)

-- two harts; a tag lies in its element; and what tells a party that it has position k doesn't tell the other that it has the position
-- that it will be handed from there
pub record IsSlots (q : Slots) : Type 0 where
  pub parties : q.sender ≢ q.receiver
  pub some : 1 ≤ q.size
  pub some_bytes : 1 ≤ q.tag_width
  pub tag_within : q.tag_offset + q.tag_width ≤ q.tag_stride
  pub tags_lie : AreSlots q ⊎ AreApart q
  pub differ : (p : Party) (k v : ℕ) → q.tells p k v ≡ true → q.tells (other p) (k + gap q p) v ≡ false

-- position k lies in slot k % size, and its tag in the element of that number
abbrev pub tagged_slot : Slots → (k : ℕ) → ℕ
tagged_slot q k = slot_from q.slots q.width q.size k

abbrev pub tag_of : Slots → (k : ℕ) → ℕ
tag_of q k = slot_from q.tags q.tag_stride q.size k + q.tag_offset

abbrev pub IsSlotByte : Slots → (k x : ℕ) → Type 0
IsSlotByte q k x = IsInBytes (tagged_slot q k) q.width x

abbrev pub IsTagByte : Slots → (k x : ℕ) → Type 0
IsTagByte q k x = IsInBytes (tag_of q k) q.tag_width x

-- x is a byte of no slot, and of no element with a tag
abbrev pub IsOutside : Slots → (x : ℕ) → Type 0
IsOutside q x = (IsInBytes q.slots (q.size * q.width) x ⊎ IsInBytes q.tags (q.size * q.tag_stride) x) → ⊥

abbrev pub KeepsOff : Slots → Write → Type 0
KeepsOff q w = (x : ℕ) → covers w x ≡ true → IsOutside q x

-- which element an address lies in; whether a whole tag lies there; and the first position from n on whose tag is in that one
abbrev pub element_at : Slots → (a : ℕ) → ℕ
element_at q a = (a - q.tags) / q.tag_stride

abbrev pub is_tag : Slots → (a width : ℕ) → Bool
is_tag q a width = a == tag_of q (element_at q a) && width == q.tag_width

abbrev pub position_at : Slots → (n a : ℕ) → ℕ
position_at q n a = n + (element_at q a + (q.size - n % q.size)) % q.size

-- the number that a slot's tag holds in memory
abbrev pub memory_tag : Slots → OpeningValue → List Entry → (k : ℕ) → ℕ
memory_tag q o es k = memory_number o es (tag_of q k) q.tag_width

-- what the parties know is within the window, the slots of the positions that are published and not taken tell the receiver so, each
-- other slot is free for its next position, and no hart has a pending store to the slots: so a run may be followed from here
pub record RestsAt (q : Slots) (o : OpeningValue) (es : List Entry) (c : QueueCounts) : Type 0 where
  pub window : IsWindow q.size c
  pub full : (k : ℕ) → c.taken ≤ k → k < c.published → q.tells the_receiver k (memory_tag q o es k) ≡ true
  pub free : (k : ℕ) → c.published ≤ k → k < c.taken + q.size → q.tells the_sender k (memory_tag q o es k) ≡ true
  pub pending : (h : ℕ) → All (KeepsOff q) (pending h es)
