-- The protocol of slots that tell as one that a certificate shows of single instructions, what a party may take for granted of the
-- slots that it owns, and what is to be shown of its loads.
use Rattle.std.specs.Prelude.{ℕ, ◌≡◌, ◌⊎◌, ◌+◌, ◌*◌, ◌<◌, ◌≤◌, true, []}
use Rattle.step_machine.specs.Access.{Access, load, exchange}
use Rattle.step_machine.specs.History.{OpeningValue}
use Rattle.queue_parties.specs.Positions.{IsInBytes}
use Rattle.queue_parties.specs.Parties.{Party, other, QueueCounts, count}
use Rattle.certified_runs.specs.Views.{View, number_seen}
use Rattle.certified_runs.specs.TwoParties.{TwoPartyProtocol, AllCounts}
use Rattle.slots_that_tell.specs.Slots.{Slots, IsSlots, RestsAt, gap, tag_of, IsTagByte}
use Rattle.slots_that_tell.specs.Telling.{owned_end, OwnsRest, told_access, TellsAccess}

-- what a tag with this number says at position k: that the party has it, or that the other has its own of that slot
abbrev pub TellsEither : Slots → Party → (k v : ℕ) → Type 0
TellsEither q p k v = (q.tells p k v ≡ true) ⊎ ((j : ℕ) × (j + gap q (other p) ≡ k) × (q.tells (other p) j v ≡ true))

-- a party has moved no further than it owns, and owns at most one round. It reads in the tag of each position that it owns what tells it
-- so, and in the others of its round what tells either party: so a load there finds one of two kinds of numbers
pub record SeesTags (q : Slots) (p : Party) (c : QueueCounts) (m : View) : Type 0 where
  pub room : count p c ≤ owned_end q p c
  pub round : owned_end q p c ≤ count p c + q.size
  pub owned : (k : ℕ) → count p c ≤ k → k < owned_end q p c → q.tells p k (number_seen m (tag_of q k) q.tag_width) ≡ true
  pub either : (k : ℕ) → count p c ≤ k → k < count p c + q.size → TellsEither q p k (number_seen m (tag_of q k) q.tag_width)

abbrev pub telling : Slots → TwoPartyProtocol
telling q = record { sender = q.sender; receiver = q.receiver; next = told_access q; May = TellsAccess q; Knows = SeesTags q }

-- N queues open rightly: each is one, and at rest at its counts, empty or with records that wait
abbrev pub OpenTellers : OpeningValue → (N : ℕ) (queues : ℕ → Slots) (starts : AllCounts) → Type 0
OpenTellers o N queues starts = (i : ℕ) → i < N → IsSlots (queues i) × RestsAt (queues i) o [] (starts i)

-- ---- loads of slots. A tag may always be loaded

abbrev pub IsOfTag : Slots → (x : ℕ) → Type 0
IsOfTag q x = (k : ℕ) × IsTagByte q k x

-- each byte of these that is of the slots is of a tag, or of a slot that the party owns
abbrev pub OwnsAllButTags : Slots → Party → QueueCounts → (a width : ℕ) → Type 0
OwnsAllButTags q p c a width = (x : ℕ) → IsInBytes a width x → IsInBytes q.slots (q.size * q.width) x → IsOfTag q x ⊎ OwnsRest q p c x

abbrev pub LoadsRestOwned : Slots → Party → QueueCounts → Access → Type 0
LoadsRestOwned q p c (load a width v) = OwnsAllButTags q p c a width
LoadsRestOwned q p c (exchange a old new) = OwnsAllButTags q p c a 4
LoadsRestOwned q p c other = Unit {0}
