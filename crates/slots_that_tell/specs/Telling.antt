-- The protocol of slots that tell: what the entries of a run say of the counts of both parties, and which stores a party may make.
use Rattle.std.specs.Prelude.{ℕ, ◌≡◌, ◌⊎◌, ◌+◌, ◌-◌, ◌<◌, ◌≤◌, ◌%◌, ◌^◌, if◌then◌else◌, Option, None, Some, List, true}
use Rattle.memory.specs.declared.writes.Write.{Write}
use Rattle.memory.specs.Writes.{write, covers}
use Rattle.step_machine.specs.declared.events.Entry.{Entry}
use Rattle.step_machine.specs.Access.{Access, load, store, exchange, access_of}
use Rattle.step_machine.specs.Entries.{hart_of}
use Rattle.queue_parties.specs.Parties.{Party, other, hart_among, party_among, QueueCounts}
use Rattle.queue_parties.specs.Parties.{count, with_count, known, with_known, counts_from, KeepsEach}
use Rattle.slots_that_tell.specs.Slots.{Slots, gap, tag_of, is_tag, position_at, IsSlotByte, IsTagByte, IsOutside, KeepsOff}

abbrev pub teller_of : Slots → (h : ℕ) → Option Party
teller_of q h = party_among q.sender q.receiver h

abbrev pub teller_hart : Slots → Party → ℕ
teller_hart q p = hart_among q.sender q.receiver p

-- Of the counts `published` is how many tags the sender stored since they began at n, and n more, `taken` the same of the receiver.
-- A party owns the positions from its own count up to here, this one not: the sender those below `known_taken + size`, and the
-- receiver those below `known_published`
abbrev pub owned_end : Slots → Party → QueueCounts → ℕ
owned_end q p c = known p c + gap q (other p)

-- what a party knows of the other's count that was told that it has position j
abbrev pub told : Slots → Party → (j : ℕ) → ℕ
told q p j = j + 1 - gap q (other p)

-- x is a byte, other than of the tag, of the slot of a position that the party owns
pub record OwnsRest (q : Slots) (p : Party) (c : QueueCounts) (x : ℕ) : Type 0 where
  pub position : ℕ
  pub from : count p c ≤ position
  pub before : position < owned_end q p c
  pub byte : IsSlotByte q position x
  pub no_tag : IsTagByte q position x → ⊥

-- ---- what an access of a party makes of the counts: a load of a whole tag that tells the party of a position, of its next round
-- from its own count on, moves what is known on to that; and a store to a whole tag is one more. All else leaves the counts

abbrev pub learned : Slots → Party → (j v : ℕ) → QueueCounts → QueueCounts
learned q p j v c = if q.tells p j v then with_known p (known p c + (told q p j - known p c)) c else c

abbrev pub after_load : Slots → Party → (a width v : ℕ) → QueueCounts → QueueCounts
after_load q p a width v c = if is_tag q a width then learned q p (position_at q (count p c) a) v c else c

-- a count after a write of the party's
abbrev pub moved : Slots → (n : ℕ) → Write → ℕ
moved q n w = if is_tag q w.addr w.width then n + 1 else n

abbrev pub after_store : Slots → Party → Write → QueueCounts → QueueCounts
after_store q p w c = with_count p (moved q (count p c) w) c

abbrev pub told_access : Slots → Option Party → Access → QueueCounts → QueueCounts
told_access q (Some p) (load a width v) c = after_load q p a width v c
told_access q (Some p) (store w) c = after_store q p w c
told_access q (Some p) (exchange a old new) c = after_store q p (write a 4 new) (after_load q p a 4 old c)
told_access q p x c = c

abbrev pub after_entry : Slots → QueueCounts → Entry → QueueCounts
after_entry q c e = told_access q (teller_of q (hart_of e)) (access_of e) c

abbrev pub told_counts : Slots → QueueCounts → List Entry → QueueCounts
told_counts q c es = counts_from (after_entry q) c es

-- ---- which stores are allowed. Loads are free

-- to the tag of its own position n, whole: what tells the other that it has the position handed over
pub record IsTagStore (q : Slots) (p : Party) (n : ℕ) (w : Write) : Type 0 where
  pub place : w.addr ≡ tag_of q n
  pub width : w.width ≡ q.tag_width
  pub word : q.tells (other p) (n + gap q p) (w.value % 256 ^ q.tag_width) ≡ true

pub record MovesOn (q : Slots) (p : Party) (c : QueueCounts) (w : Write) : Type 0 where
  pub tag : IsTagStore q p (count p c) w
  pub owned : count p c < owned_end q p c

-- of bytes, in any width: each that is of a slot is one of an owned slot, and of no tag
abbrev pub FillsOwned : Slots → Party → QueueCounts → Write → Type 0
FillsOwned q p c w = (x : ℕ) → covers w x ≡ true → IsOutside q x ⊎ OwnsRest q p c x

abbrev pub MayStore : Slots → Party → QueueCounts → Write → Type 0
MayStore q p c w = MovesOn q p c w ⊎ FillsOwned q p c w

-- an AMO is a load and then a store; a third hart stores nothing to the slots
abbrev pub TellsAccess : Slots → Option Party → QueueCounts → Access → Type 0
TellsAccess q (Some p) c (store w) = MayStore q p c w
TellsAccess q (Some p) c (exchange a old new) = MayStore q p (after_load q p a 4 old c) (write a 4 new)
TellsAccess q None c (store w) = KeepsOff q w
TellsAccess q None c (exchange a old new) = KeepsOff q (write a 4 new)
TellsAccess q p c x = Unit {0}

abbrev pub KeepsEntry : Slots → QueueCounts → Entry → Type 0
KeepsEntry q c e = TellsAccess q (teller_of q (hart_of e)) c (access_of e)

abbrev pub KeepsTelling : Slots → QueueCounts → List Entry → Type 0
KeepsTelling q c es = KeepsEach (after_entry q) (KeepsEntry q) c es
