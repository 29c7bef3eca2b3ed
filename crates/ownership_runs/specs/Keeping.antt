-- Whether an entry keeps its queue's protocol, decided: of each byte of a store by where its slot lies from the own count on.
use Rattle.std.specs.Prelude.{ℕ, zero, suc, ◌+◌, ◌-◌, ◌*◌, ◌/◌, ◌%◌, ◌^◌, ◌==◌, ◌&&◌, ◌||◌, not, nat_le, nat_lt, Bool, true, false, Option, None, Some}
use Rattle.memory.specs.declared.writes.Write.{Write}
use Rattle.memory.specs.Writes.{write}
use Rattle.step_machine.specs.declared.events.Entry.{Entry}
use Rattle.step_machine.specs.Access.{Access, load, store, exchange, access_of}
use Rattle.step_machine.specs.Entries.{hart_of}
use Rattle.queue_parties.specs.Parties.{Party, other, QueueCounts, count, with_known}
use Rattle.slot_queue.specs.Queues.{Queue, index_word, least_count}
use Rattle.slot_queue.specs.Ownership.{end, is_index_store}
use Rattle.slots_that_tell.specs.Slots.{Slots, gap, tag_of}
use Rattle.slots_that_tell.specs.Telling.{owned_end}
use Rattle.queue_layouts.specs.declared.AnyQueue.{AnyQueue}
use Rattle.queue_layouts.specs.declared.AnyQueue.TheVariants.{Indexed, Tagged}
use Rattle.queue_layouts.specs.Tagged.{slots_of}
use Rattle.ownership_runs.specs.declared.violations.Owned.{Owned}
use Rattle.ownership_runs.specs.Protocols.{party_for, end_in, access_counts}

-- ---- bytes

-- x is one of this many bytes from an address on
abbrev pub is_in_bytes : (from count x : ℕ) → Bool
is_in_bytes from count x = nat_le from x && nat_lt x (from + count)

-- x is no byte of the queue
abbrev pub is_outside : AnyQueue → (x : ℕ) → Bool
is_outside (Indexed q) x = not (is_in_bytes q.head q.index_width x) && not (is_in_bytes q.tail q.index_width x)
    && not (is_in_bytes q.slots (q.size * q.width) x)
is_outside (Tagged q) x = not (is_in_bytes q.slots (q.size * q.width) x) && not (is_in_bytes q.tags (q.size * q.tag_stride) x)

-- the least position from n on that lies in slot j of `size`
abbrev pub position_from : (size n j : ℕ) → ℕ
position_from size n j = n + (j + (size - n % size)) % size

-- x is a byte of the slot of an owned position: of the least that lies there from the first owned one on
abbrev pub is_of_owned : (slots size width : ℕ) → Owned → (x : ℕ) → Bool
is_of_owned slots size width o x = is_in_bytes slots (size * width) x && nat_lt (position_from size o.from ((x - slots) / width)) o.end

-- x is a byte of the tag of the slot that it lies in
abbrev pub is_tag_byte : Slots → (x : ℕ) → Bool
is_tag_byte q x = is_in_bytes (tag_of q ((x - q.slots) / q.width)) q.tag_width x

-- x is a byte that the party may fill: of a slot that it owns, and of no tag
abbrev pub is_to_fill : AnyQueue → Option Owned → (x : ℕ) → Bool
is_to_fill q None x = false
is_to_fill (Indexed q) (Some o) x = is_of_owned q.slots q.size q.width o x
is_to_fill (Tagged q) (Some o) x = is_of_owned q.slots q.size q.width o x && not (is_tag_byte (slots_of q) x)

abbrev pub may_fill : AnyQueue → Option Owned → (x : ℕ) → Bool
may_fill q o x = is_outside q x || is_to_fill q o x

-- ---- stores of a hart, which is a party or none

-- what it owns
abbrev pub owned_by : AnyQueue → Option Party → QueueCounts → Option Owned
owned_by q None c = None
owned_by q (Some p) c = Some (record { from = count p c; end = end_in q p c })

-- each of `number` bytes from a on is of no part of the queue, or of an owned slot and of no tag
unfoldable pub fills : AnyQueue → Option Owned → (a number : ℕ) → Bool
fills q o a zero = true
fills q o a (suc number) = may_fill q o (a + number) && fills q o a number

-- a party moves its own index on, up to the end of what it owns
abbrev pub moves_index : Queue → Party → QueueCounts → Write → Bool
moves_index q p c w = is_index_store q p w && (w.value == index_word q (least_count q (count p c) w.value)) &&
    nat_le (least_count q (count p c) w.value) (end q p c)

-- a store to the tag of position n, whole, of a value that tells the other that it has the position handed over
abbrev pub is_tag_store : Slots → Party → (n : ℕ) → Write → Bool
is_tag_store q p n w = (w.addr == tag_of q n) && (w.width == q.tag_width) && q.tells (other p) (n + gap q p) (w.value % 256 ^ q.tag_width)

-- one to the tag of its own position, which it owns
abbrev pub hands_on : Slots → Party → QueueCounts → Write → Bool
hands_on q p c w = is_tag_store q p (count p c) w && nat_lt (count p c) (owned_end q p c)

abbrev pub moves_on : AnyQueue → Option Party → QueueCounts → Write → Bool
moves_on q None c w = false
moves_on (Indexed q) (Some p) c w = moves_index q p c w
moves_on (Tagged q) (Some p) c w = hands_on (slots_of q) p c w

abbrev pub keeps_store : AnyQueue → Option Party → QueueCounts → Write → Bool
keeps_store q p c w = moves_on q p c w || fills q (owned_by q p c) w.addr w.width

-- ---- a store of a hart that owned many positions

abbrev pub slots_in : AnyQueue → ℕ
slots_in (Indexed q) = q.size
slots_in (Tagged q) = q.size

-- the counts, if a party knew the other to have come so far that it owns as many positions as there are slots, or more
abbrev pub owning_all : AnyQueue → Option Party → QueueCounts → QueueCounts
owning_all q None c = c
owning_all q (Some p) c = with_known p (count p c + slots_in q) c

-- the protocol has such a store of the hart then: it might make it if it owned as many positions as there are slots, and a sender as many more as
-- may be in use
abbrev pub is_described : AnyQueue → Option Party → QueueCounts → Write → Bool
is_described q p c w = keeps_store q p (owning_all q p c) w

-- ---- entries

-- an AMO that writes the word that it read is a load alone, to a queue with indices
abbrev pub is_load_alone : AnyQueue → (old new : ℕ) → Bool
is_load_alone (Indexed q) old new = new == old
is_load_alone (Tagged q) old new = false

-- loads are free
abbrev pub keeps_access : AnyQueue → Option Party → QueueCounts → Access → Bool
keeps_access q p c (store w) = keeps_store q p c w
keeps_access q p c (exchange a old new) = is_load_alone q old new || keeps_store q p (access_counts q p (load a 4 old) c) (write a 4 new)
keeps_access q p c x = true

abbrev pub keeps_entry : AnyQueue → QueueCounts → Entry → Bool
keeps_entry q c e = keeps_access q (party_for q (hart_of e)) c (access_of e)
