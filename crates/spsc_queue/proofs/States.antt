-- What is known of both parties in a state of the protocol: where they stand, and how their counts may differ.
use Rattle.spsc_queue.proofs.Common.{ℕ, zero, suc, ◌+◌, ◌≤◌, ◌≡◌, List, [], ◌∷◌, ◌++◌, arith, Kind, lamport, fastforward, RingBuffer, slot_offset, capacity_of}
use Rattle.spsc_queue.proofs.Common.{SenderState, resting, placed, renewing, roomy, filled, ReceiverState, idle, asked, waiting, holding, cleared}
use Rattle.spsc_queue.proofs.Common.{ProtocolState, available_of}
use Rattle.spsc_queue.proofs.Cases.{IsLevel, IsWhole}

-- the first n words of L
abbrev pub firsts : (ℕ → ℕ) → ℕ → List ℕ
firsts L zero = []
firsts L (suc n) = firsts L n ++ L n ∷ []

-- how many slots stay free
abbrev pub spare : Kind → ℕ
spare lamport = 1
spare fastforward = 0

pub spare_capacity : (K : Kind) (size : ℕ) → 1 ≤ size → capacity_of K size + spare K ≡ size
spare_capacity lamport size some = omega (arith, some)
spare_capacity fastforward size some = omega arith

-- the sender's place, and whether a word is half sent
abbrev pub IsPlaced : RingBuffer → (stored published : ℕ) → SenderState → Type 0
IsPlaced r stored published resting = stored ≡ published
IsPlaced r stored published (placed u) = (stored ≡ published) × (u ≡ slot_offset r published)
IsPlaced r stored published (renewing u v) = (stored ≡ published) × (u ≡ slot_offset r published)
IsPlaced r stored published (roomy u) = (stored ≡ published) × (u ≡ slot_offset r published)
IsPlaced r stored published (filled u) = (stored ≡ published + 1) × (u ≡ slot_offset r published)

-- so the counts are near, and level where no word is half sent
pub near-counts : (r : RingBuffer) (stored published : ℕ) (p : SenderState) → IsPlaced r stored published p → (published ≤ stored) × (stored ≤ published + 1)
near-counts r stored published resting h = (omega (arith, h), omega (arith, h))
near-counts r stored published p h = (omega (arith, h.0), omega (arith, h.0))

pub level-counts : (r : RingBuffer) (stored published : ℕ) (p : SenderState) → IsLevel p → IsPlaced r stored published p → stored ≡ published
level-counts r stored published resting l h = h
level-counts r stored published (filled u) l h = absurd l
level-counts r stored published p l h = h.0

-- the receiver's place, and whether a slot is half freed
abbrev pub IsAsked : RingBuffer → (consumed : ℕ) → ReceiverState → Type 0
IsAsked r consumed idle = Unit {0}
IsAsked r consumed (asked u) = u ≡ slot_offset r consumed
IsAsked r consumed (waiting u) = u ≡ slot_offset r consumed
IsAsked r consumed (holding u w) = u ≡ slot_offset r consumed
IsAsked r consumed (cleared u) = u ≡ slot_offset r consumed

abbrev pub Taking : Kind → (taken consumed : ℕ) → ReceiverState → Type 0
Taking lamport n m (cleared u) = ⊥
Taking fastforward n m (cleared u) = n ≡ m + 1
Taking k n m p = n ≡ m

pub whole-counts : (k : Kind) (n m : ℕ) (p : ReceiverState) → IsWhole p → Taking k n m p → n ≡ m
whole-counts k n m (cleared u) whole is = absurd whole
whole-counts lamport n m p whole is = is
whole-counts fastforward n m p whole is = is

-- ---- what every run says of the two parties

pub record Known (k : Kind) (r : RingBuffer) (L : ℕ → ℕ) (s : ProtocolState) : Type 0 where
  pub sent : s.sent ≡ firsts L s.stored
  pub received : s.received ≡ firsts L s.taken
  pub sending : IsPlaced r s.stored s.published s.sending
  pub receiving : IsAsked r s.consumed s.receiving
  pub published_stored : s.published ≤ s.stored
  pub stored_published : s.stored ≤ s.published + 1
  pub taken_available : s.taken ≤ available_of k s
  pub available_stored : available_of k s ≤ s.stored
  pub room : s.stored ≤ s.taken + capacity_of k r.size

pub available_stored : (k : Kind) (s : ProtocolState) → s.published ≤ s.stored → available_of k s ≤ s.stored
available_stored lamport s le = le
available_stored fastforward s le = omega arith
