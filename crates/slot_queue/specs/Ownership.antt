-- The protocol of ownership: what the entries of a run say of the counts of both parties, and which stores a party may make.
use Rattle.std.specs.Prelude.{ℕ, ◌≡◌, ◌⊎◌, ◌<◌, ◌≤◌, ◌==◌, ◌&&◌, if◌then◌else◌, Bool, Option, None, Some, List, true}
use Rattle.memory.specs.declared.writes.Write.{Write}
use Rattle.memory.specs.Writes.{write, covers}
use Rattle.step_machine.specs.declared.events.Entry.{Entry}
use Rattle.step_machine.specs.Access.{Access, load, store, exchange, access_of}
use Rattle.step_machine.specs.Entries.{hart_of}
use Rattle.queue_parties.specs.Parties.{Party, the_sender, the_receiver, other, hart_among, party_among, QueueCounts, count, with_count, known, with_known}
use Rattle.queue_parties.specs.Parties.{owned_until, counts_from, KeepsEach}
use Rattle.slot_queue.specs.Queues.{Queue, index_word, least_count, IsByteOf, IsOutside, KeepsOff}

abbrev pub party_of : Queue → (h : ℕ) → Option Party
party_of q h = party_among q.sender q.receiver h

abbrev pub hart : Queue → Party → ℕ
hart q p = hart_among q.sender q.receiver p

-- the index that a party stores, and the other loads
abbrev pub index : Queue → Party → ℕ
index q the_sender = q.head
index q the_receiver = q.tail

-- a party owns the positions from its own count up to here, this one not
abbrev pub end : Queue → Party → QueueCounts → ℕ
end q p c = owned_until q.capacity p c

-- x is a byte of the slot of a position that the party owns
pub record OwnsByte (q : Queue) (p : Party) (c : QueueCounts) (x : ℕ) : Type 0 where
  pub position : ℕ
  pub from : count p c ≤ position
  pub before : position < end q p c
  pub byte : IsByteOf q position x

-- ---- what an access of a party makes of the counts: a load of the other's index, whole, or a store to the own one, whole, moves
-- a count on to the least that it stands for, and all else leaves the counts

abbrev pub after_load : Queue → Party → (a width v : ℕ) → QueueCounts → QueueCounts
after_load q p a width v c = if a == index q (other p) && width == q.index_width then with_known p (least_count q (known p c) v) c else c

abbrev pub is_index_store : Queue → Party → Write → Bool
is_index_store q p w = w.addr == index q p && w.width == q.index_width

-- a count after a write of the party's
abbrev pub moved : Queue → Party → (n : ℕ) → Write → ℕ
moved q p n w = if is_index_store q p w then least_count q n w.value else n

abbrev pub after_store : Queue → Party → Write → QueueCounts → QueueCounts
after_store q p w c = with_count p (moved q p (count p c) w) c

abbrev pub after_access : Queue → Option Party → Access → QueueCounts → QueueCounts
after_access q (Some p) (load a width v) c = after_load q p a width v c
after_access q (Some p) (store w) c = after_store q p w c
after_access q (Some p) (exchange a old new) c = after_store q p (write a 4 new) (after_load q p a 4 old c)
after_access q p x c = c

abbrev pub counts_next : Queue → QueueCounts → Entry → QueueCounts
counts_next q c e = after_access q (party_of q (hart_of e)) (access_of e) c

abbrev pub counts_after : Queue → QueueCounts → List Entry → QueueCounts
counts_after q c es = counts_from (counts_next q) c es

-- ---- which stores are allowed. Loads are free

-- to the own index, whole, the word of a count from the own one on, up to the end of what is owned. A store has of a register only the
-- bytes that it writes
pub record MovesOn (q : Queue) (p : Party) (c : QueueCounts) (w : Write) : Type 0 where
  pub place : w.addr ≡ index q p
  pub width : w.width ≡ q.index_width
  pub word : w.value ≡ index_word q (least_count q (count p c) w.value)
  pub owned : least_count q (count p c) w.value ≤ end q p c

-- of bytes, in any width: each that is of the queue is of an owned slot. So none is of an index
abbrev pub FillsOwned : Queue → Party → QueueCounts → Write → Type 0
FillsOwned q p c w = (x : ℕ) → covers w x ≡ true → IsOutside q x ⊎ OwnsByte q p c x

abbrev pub MayStore : Queue → Party → QueueCounts → Write → Type 0
MayStore q p c w = MovesOn q p c w ⊎ FillsOwned q p c w

-- an AMO is a load and then a store, or a load alone if it writes the word that it read; a third hart stores nothing to the queue
abbrev pub KeepsAccess : Queue → Option Party → QueueCounts → Access → Type 0
KeepsAccess q (Some p) c (store w) = MayStore q p c w
KeepsAccess q (Some p) c (exchange a old new) = (new ≡ old) ⊎ MayStore q p (after_load q p a 4 old c) (write a 4 new)
KeepsAccess q None c (store w) = KeepsOff q w
KeepsAccess q None c (exchange a old new) = (new ≡ old) ⊎ KeepsOff q (write a 4 new)
KeepsAccess q p c x = Unit {0}

abbrev pub KeepsEntry : Queue → QueueCounts → Entry → Type 0
KeepsEntry q c e = KeepsAccess q (party_of q (hart_of e)) c (access_of e)

abbrev pub KeepsOwnership : Queue → QueueCounts → List Entry → Type 0
KeepsOwnership q c es = KeepsEach (counts_next q) (KeepsEntry q) c es
