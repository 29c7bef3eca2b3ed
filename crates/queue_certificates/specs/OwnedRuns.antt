-- What has to be shown of the states of each hart, so that every run keeps the protocol of ownership of each of its queues, and the
-- protocols of other queues beside these. A certificate lists such states, and what is to be shown of it speaks of one instruction of
-- one hart at a time, and of no run. There are no calls: all code is ordinary.
use Rattle.std.specs.Prelude.{ℕ, ◌≡◌, ◌≢◌, ◌+◌, ◌*◌, ◌<◌, ◌≤◌, false, Some, List, [], ◌∷◌, slice_index, length}
use Rattle.std.specs.List.{slice_get}
use Rattle.hart.specs.State.{HartState}
use Rattle.hart.specs.Steps.{advanced}
use Rattle.step_machine.specs.declared.events.Entry.{Entry}
use Rattle.step_machine.specs.Access.{Access, load, exchange, access_of}
use Rattle.step_machine.specs.History.{HartOpeningValue, OpeningValue}
use Rattle.step_machine.specs.Entries.{hart_of, is_land, opening_byte}
use Rattle.step_machine.specs.Paths.{number_read, CanMake, opens_as}
use Rattle.store_buffers.specs.StoreBuffers.{LeavesByteBy}
use Rattle.slot_queue.specs.Queues.{Queue, index_word, IsByteOf, IsQueue, IsAtRest}
use Rattle.queue_parties.specs.Positions.{IsInBytes}
use Rattle.certified_runs.specs.Certified.{Protocol}
use Rattle.certified_runs.specs.TwoParties.{TwoPartyProtocol, all_of}
use Rattle.certified_runs.specs.TwoParties as two_parties
use Rattle.queue_parties.specs.Parties.{Party, the_sender, the_receiver, other, QueueCounts, all_at, count, known}
use Rattle.slot_queue.specs.Ownership.{party_of, hart, index, end, OwnsByte, after_access, counts_next, KeepsAccess}
pub use Rattle.certified_runs.specs.Views.{View, number_seen, ReadsFrom, byte_then, view_then, LoadsByte}
pub use Rattle.certified_runs.specs.TwoParties.{AllCounts}

-- the other's count is no more than this: what a party's own count and the window allow
abbrev pub limit : Queue → Party → QueueCounts → ℕ
limit q the_sender c = c.published
limit q the_receiver c = c.taken + q.capacity

-- a party has moved no further than it owns; its view has the word of its own count in its own index, and in the other's the word of
-- one that goes from what is known up to the window's limit
pub record SeesIndices (q : Queue) (p : Party) (c : QueueCounts) (m : View) : Type 0 where
  pub room : count p c ≤ end q p c
  pub own : number_seen m (index q p) q.index_width ≡ index_word q (count p c)
  pub there : ℕ
  pub theirs : number_seen m (index q (other p)) q.index_width ≡ index_word q there
  pub from : known p c ≤ there
  pub upto : there ≤ limit q p c

-- the protocol of ownership as one of two parties
abbrev pub owning : Queue → TwoPartyProtocol
owning q = record { sender = q.sender; receiver = q.receiver; next = after_access q; May = KeepsAccess q; Knows = SeesIndices q }

-- `number` queues of other protocols beside, and the counts with which they open
pub record Beside : Type 1 where
  pub number : ℕ
  pub queues : ℕ → TwoPartyProtocol
  pub starts : AllCounts

abbrev pub kept_beside : Beside → Protocol AllCounts
kept_beside b = all_of b.number b.queues

-- these counts are the same as far as hart h knows them
abbrev pub IsSameFor : Queue → (h : ℕ) → (c d : QueueCounts) → Type 0
IsSameFor q h c d = two_parties.IsSameFor (owning q) h c d

-- `Sent i k m` says what the record at position k of queue i may be, by the bytes of its slot in a view, of the queues with `Told i`
module _ (M : ℕ) (o : OpeningValue) (N : ℕ) (queues : ℕ → Queue) (Told : ℕ → Type 0) (Sent : (i k : ℕ) → View → Type 0) where
  -- hart h, in state s with view m and at these counts, may make this entry. Its code is that of its opening, and its memory has M
  -- words
  pub record ActsByCounts (h : ℕ) (s : HartState) (m : View) (cs : AllCounts) (e : Entry) : Type 0 where
    pub mine : hart_of e ≡ h
    pub act : is_land e ≡ false
    pub can : CanMake s e
    pub reads : ReadsFrom m (access_of e)
    pub bytes : (x : ℕ) → m x < 256
    pub sees : (i : ℕ) → i < N → (p : Party) → h ≡ hart (queues i) p → SeesIndices (queues i) p (cs i) m
    pub received : (i : ℕ) → i < N → Told i → h ≡ (queues i).receiver → (k : ℕ) → (cs i).taken ≤ k → k < (cs i).known_published → Sent i k m
    pub opens : HartOpeningValue
    pub is : slice_get o.harts h ≡ Some opens
    pub code : s.code ≡ opens.code
    pub words : s.words ≡ M
    pub size : length s.registers ≡ length opens.registers
    pub zero : slice_index s.registers 0 ≡ 0

  -- what hart h makes of the counts by an access
  abbrev pub counts_then : (h : ℕ) → Access → AllCounts → AllCounts
  counts_then h y cs = λ i. after_access (queues i) (party_of (queues i) h) y (cs i)

  -- These sets P of states, views and counts of each hart hold whatever a run leads to, where `Own h x` says that the byte at x is
  -- hart h's own, so that no other hart writes it, and `starts` are the counts with which the queues open. They speak of the counts of
  -- the queues beside too, and of what is known there
  pub record IsCertifiedOfQueues (b : Beside) (starts : ℕ → ℕ) (Own : ℕ → ℕ → Type 0) (P : ℕ → HartState → View → AllCounts → AllCounts → Type 0) : Type 0 where
    -- a set says nothing of bytes that aren't the hart's own, and nothing of counts that it doesn't know
    pub frame : (h : ℕ) (s : HartState) (m n : View) (cs ds us vs : AllCounts) → P h s m cs us → ((x : ℕ) → Own h x → n x ≡ m x)
        → ((i : ℕ) → i < N → IsSameFor (queues i) h (cs i) (ds i)) → (kept_beside b).IsSame h us vs → P h s n ds vs
    -- each hart opens in its set
    pub opens : (h : ℕ) (x : HartOpeningValue) → slice_get o.harts h ≡ Some x → P h (opens_as M x) (opening_byte o) (λ i. all_at (starts i)) b.starts
    -- an instruction leads from the set into it,
    pub steps : (h : ℕ) (s : HartState) (m : View) (cs us : AllCounts) (e : Entry) → P h s m cs us → ActsByCounts h s m cs e → (kept_beside b).Knows h us m
        → P h (advanced s (number_read e)) (view_then (access_of e) m) (counts_then h (access_of e) cs) ((kept_beside b).next h (access_of e) us)
    -- stores to each queue what its hart may: a party what it owns, and a third hart nothing,
    pub writes : (h : ℕ) (s : HartState) (m : View) (cs us : AllCounts) (e : Entry) → P h s m cs us → ActsByCounts h s m cs e → (kept_beside b).Knows h us m
        → (i : ℕ) → i < N → KeepsAccess (queues i) (party_of (queues i) h) (cs i) (access_of e)
    -- keeps the protocols beside,
    pub keeps : (h : ℕ) (s : HartState) (m : View) (cs us : AllCounts) (e : Entry) → P h s m cs us → ActsByCounts h s m cs e → (kept_beside b).Knows h us m
        → (kept_beside b).May h us (access_of e)
    -- and writes no byte that is another hart's own
    pub apart : (h : ℕ) (s : HartState) (m : View) (cs us : AllCounts) (e : Entry) → P h s m cs us → ActsByCounts h s m cs e → (kept_beside b).Knows h us m
        → (g x : ℕ) → g ≢ h → Own g x → LeavesByteBy x (access_of e)
    -- what is said of a record is said of its slot's bytes alone;
    pub record_frame : (i k : ℕ) → i < N → Told i → (m n : View) → ((x : ℕ) → IsByteOf (queues i) k x → n x ≡ m x) → Sent i k m → Sent i k n
    -- it is so where the sender moves its head past the position,
    pub publishes : (h : ℕ) (s : HartState) (m : View) (cs us : AllCounts) (e : Entry) → P h s m cs us → ActsByCounts h s m cs e → (kept_beside b).Knows h us m
        → (i : ℕ) → i < N → Told i → h ≡ (queues i).sender → (k : ℕ) → (cs i).published ≤ k → k < (counts_then h (access_of e) cs i).published → Sent i k m
    -- and the receiver writes nothing to slots
    pub takes : (h : ℕ) (s : HartState) (m : View) (cs us : AllCounts) (e : Entry) → P h s m cs us → ActsByCounts h s m cs e → (kept_beside b).Knows h us m
        → (i : ℕ) → i < N → Told i → h ≡ (queues i).receiver → (k x : ℕ) → IsByteOf (queues i) k x → LeavesByteBy x (access_of e)

  -- the queues open rightly: each is one, and is empty and at rest at its count
  abbrev pub OpenQueues : (starts : ℕ → ℕ) → Type 0
  OpenQueues starts = (i : ℕ) → i < N → IsQueue (queues i) × IsAtRest (queues i) o [] (all_at (starts i))

-- ---- loads of slots

-- each byte of these that is of the slots is of a slot that the party owns
abbrev pub OwnsSlotsOf : Queue → Party → QueueCounts → (a width : ℕ) → Type 0
OwnsSlotsOf q p c a width = (x : ℕ) → IsInBytes a width x → IsInBytes q.slots (q.size * q.width) x → OwnsByte q p c x

abbrev pub LoadsOwned : Queue → Party → QueueCounts → Access → Type 0
LoadsOwned q p c (load a width v) = OwnsSlotsOf q p c a width
LoadsOwned q p c (exchange a old new) = OwnsSlotsOf q p c a 4
LoadsOwned q p c other = Unit {0}

-- the party's hart loads no byte of a slot that it doesn't own
-- only conclusions cite it: proofs/OneSlotQueue.antt has it by hand
abbrev pub ReadsOwned : Queue → Party → QueueCounts → List Entry → Type 0
ReadsOwned q p c [] = Unit {0}
ReadsOwned q p c (e ∷ es) = (hart_of e ≡ hart q p → LoadsOwned q p c (access_of e)) × ReadsOwned q p (counts_next q c e) es

-- in these sets that is so of each load of the party's hart
abbrev pub LoadsAreOwned : (M : ℕ) (o : OpeningValue) (N : ℕ) (queues : ℕ → Queue) (Told : ℕ → Type 0)
    (Sent : (i k : ℕ) → View → Type 0) (b : Beside) (P : ℕ → HartState → View → AllCounts → AllCounts → Type 0) (i : ℕ) → Party → Type 0
LoadsAreOwned M o N queues Told Sent b P i p = (s : HartState) (m : View) (cs us : AllCounts) (e : Entry) → P (hart (queues i) p) s m cs us
    → ActsByCounts M o N queues Told Sent (hart (queues i) p) s m cs e → (kept_beside b).Knows (hart (queues i) p) us m
    → LoadsOwned (queues i) p (cs i) (access_of e)
