-- Protocols of queues between two harts, each queue with its counts, and how far a hart knows these.
use Rattle.std.specs.Prelude.{ℕ, ◌≡◌, ◌<◌, List, Option}
use Rattle.step_machine.specs.declared.events.Entry.{Entry}
use Rattle.step_machine.specs.Access.{Access, access_of}
use Rattle.step_machine.specs.Entries.{hart_of}
use Rattle.queue_parties.specs.Parties.{Party, hart_among, party_among, QueueCounts, count, known, counts_from, KeepsEach}
use Rattle.certified_runs.specs.Views.{View}
use Rattle.certified_runs.specs.Certified.{Protocol}

-- Two harts; what an access of a party, or of a third hart, makes of the counts; which accesses it may make; and what a party may take
-- for granted of what it reads
pub record TwoPartyProtocol : Type 1 where
  pub sender : ℕ
  pub receiver : ℕ
  pub next : Option Party → Access → QueueCounts → QueueCounts
  pub May : Option Party → QueueCounts → Access → Type 0
  pub Knows : Party → QueueCounts → View → Type 0

abbrev pub party_in : TwoPartyProtocol → (h : ℕ) → Option Party
party_in q h = party_among q.sender q.receiver h

abbrev pub hart_in : TwoPartyProtocol → Party → ℕ
hart_in q p = hart_among q.sender q.receiver p

-- these counts are the same as far as hart h knows them: a party its own count, and what it knows of the other's; a third hart none
pub record IsSameFor (q : TwoPartyProtocol) (h : ℕ) (c d : QueueCounts) : Type 0 where
  pub count : (p : Party) → h ≡ hart_in q p → count p d ≡ count p c
  pub known : (p : Party) → h ≡ hart_in q p → known p d ≡ known p c

-- The counts of each queue, by the queues' numbers
abbrev pub AllCounts : Type 0
AllCounts = ℕ → QueueCounts

-- the protocol of N queues at once
abbrev pub all_of : (N : ℕ) (queues : ℕ → TwoPartyProtocol) → Protocol AllCounts
all_of N queues = record {
  next = λ h y cs i. (queues i).next (party_in (queues i) h) y (cs i);
  IsSame = λ h cs ds. (i : ℕ) → i < N → IsSameFor (queues i) h (cs i) (ds i);
  May = λ h cs y. (i : ℕ) → i < N → (queues i).May (party_in (queues i) h) (cs i) y;
  Knows = λ h cs m. (i : ℕ) → i < N → (p : Party) → h ≡ hart_in (queues i) p → (queues i).Knows p (cs i) m;
  Owns = λ h cs x. ⊥;
}

-- in a run: what an entry makes of the counts, whether it is allowed, and both of all its entries
abbrev pub next_by : TwoPartyProtocol → QueueCounts → Entry → QueueCounts
next_by q c e = q.next (party_in q (hart_of e)) (access_of e) c

abbrev pub MayBy : TwoPartyProtocol → QueueCounts → Entry → Type 0
MayBy q c e = q.May (party_in q (hart_of e)) c (access_of e)

abbrev pub counts_in : TwoPartyProtocol → (start : QueueCounts) → List Entry → QueueCounts
counts_in q start es = counts_from (next_by q) start es

abbrev pub KeepsProtocol : TwoPartyProtocol → (start : QueueCounts) → List Entry → Type 0
KeepsProtocol q start es = KeepsEach (next_by q) (MayBy q) start es

-- each access of hart h is one of these, by the counts before it
abbrev pub EachIs : TwoPartyProtocol → (h : ℕ) (Is : QueueCounts → Access → Type 0) → (start : QueueCounts) → List Entry → Type 0
EachIs q h Is start es = KeepsEach (next_by q) (λ c e. hart_of e ≡ h → Is c (access_of e)) start es
