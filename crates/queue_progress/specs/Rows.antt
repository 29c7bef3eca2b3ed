-- What a run shows of a party of a queue with indices: instructions in a row that don't get it further.
use Rattle.std.specs.Prelude.{ℕ, ◌≡◌, ◌+◌, ◌<◌, ◌≤◌, ◌++◌, if◌then◌else◌, Bool, true, false, List, [], ◌∷◌, ◌⊎◌, Some}
use Rattle.step_machine.specs.declared.events.Entry.{Entry}
use Rattle.step_machine.specs.Access.{Access, load, exchange, access_of}
use Rattle.step_machine.specs.Entries.{is_own}
use Rattle.step_machine.specs.History.{OpeningValue, history_of}
use Rattle.store_buffers.specs.StoreBuffers.{memory_number}
use Rattle.queue_parties.specs.Parties.{Party, other, QueueCounts, count, all_at, KeepsEach}
use Rattle.slot_queue.specs.Queues.{Queue, index_word}
use Rattle.slot_queue.specs.Ownership.{hart, index, end, counts_next, counts_after}
use Rattle.queue_certificates.specs.Certificates.{QueueCertificate, queue_at, start_at}
use Rattle.hart.specs.State.{HartState}
use Rattle.hart.specs.declared.status.Status.TheVariants as status
use Rattle.step_machine.specs.Legal.{WellFormed}
use Rattle.step_machine.specs.Paths.{state_of, IsStatus}

-- how many instructions hart h executes
abbrev pub executed : (h : ℕ) → List Entry → ℕ
executed h [] = 0
executed h (e ∷ es) = (if is_own h e then 1 else 0) + executed h es

-- the access loads the other's index, whole
abbrev pub LooksBy : Queue → Party → Access → Type 0
LooksBy q p (load a width v) = (a ≡ index q (other p)) × (width ≡ q.index_width)
LooksBy q p (exchange a old new) = (a ≡ index q (other p)) × (4 ≡ q.index_width)
LooksBy q p y = ⊥

-- ---- an entry of the party's, by the counts before it

-- it leaves the party's count, and the party owns more than K positions
pub record IsIdleStep (q : Queue) (p : Party) (K : ℕ) (c : QueueCounts) (e : Entry) : Type 0 where
  pub stays : count p (counts_next q c e) ≡ count p c
  pub owns : count p c + K < end q p c

-- it leaves the party's count, and doesn't load the other's index
pub record IsBlindStep (q : Queue) (p : Party) (c : QueueCounts) (e : Entry) : Type 0 where
  pub stays : count p (counts_next q c e) ≡ count p c
  pub unseen : LooksBy q p (access_of e) → ⊥

-- it leaves the party's count, and where it loads the other's index, the party finds that it owns more than K positions
pub record IsStuckStep (q : Queue) (p : Party) (K : ℕ) (c : QueueCounts) (e : Entry) : Type 0 where
  pub stays : count p (counts_next q c e) ≡ count p c
  pub finds : LooksBy q p (access_of e) → count p c + K < end q p (counts_next q c e)

-- ---- entries

-- each of the party's own is so
abbrev pub EachOwn : Queue → Party → (QueueCounts → Entry → Type 0) → QueueCounts → List Entry → Type 0
EachOwn q p Is c es = KeepsEach (counts_next q) (λ d e. is_own (hart q p) e ≡ true → Is d e) c es

-- each entry of hart h's own is so, by those before it
abbrev pub EachAfter : (h : ℕ) → (List Entry → Entry → Type 0) → List Entry → List Entry → Type 0
EachAfter h Is done [] = Unit {0}
EachAfter h Is done (e ∷ es) = (is_own h e ≡ true → Is done e) × EachAfter h Is (done ++ e ∷ []) es

-- of queue i, after these entries
abbrev pub counts_at : QueueCertificate → (i : ℕ) → List Entry → QueueCounts
counts_at c i es = counts_after (queue_at c i) (all_at (start_at c i)) es

-- how many positions were published, and how many taken, together
abbrev pub all_moved : QueueCounts → ℕ
all_moved c = c.published + c.taken

-- in memory both indices hold the words of their counts
abbrev pub HaveLanded : Queue → OpeningValue → List Entry → QueueCounts → Type 0
HaveLanded q o es c = (p : Party) → memory_number o es (index q p) q.index_width ≡ index_word q (count p c)

-- ---- of instructions in a row

-- it leaves the count of party p of queue i, and where it loads the other's index, the party finds that it owns more than K positions
abbrev pub IsStuckAt : QueueCertificate → (i : ℕ) → Party → (K : ℕ) → List Entry → Entry → Type 0
IsStuckAt c i p K es e = IsStuckStep (queue_at c i) p K (counts_at c i es) e

-- in each run, of `within` instructions in a row of hart h one isn't stuck, by the entries before it
abbrev pub GoesWithin : OpeningValue → (h : ℕ) → (IsStuck : List Entry → Entry → Type 0) → (within : ℕ) → Type 0
GoesWithin o h IsStuck within = (B M : ℕ) (es row : List Entry) → WellFormed B M (history_of o (es ++ row)) → EachAfter h IsStuck es row
    → executed h row < within

-- in each run that has landed, and in which then hart g executes n instructions, and hart h m of them, in any order and beside others, more moves
abbrev pub MovesAfter : OpeningValue → (HasLanded : List Entry → Type 0) → (moved : List Entry → ℕ) → (g h n m : ℕ) → Type 0
MovesAfter o HasLanded moved g h n m = (B M : ℕ) (es row : List Entry) → WellFormed B M (history_of o (es ++ row)) → HasLanded es
    → n ≤ executed g row → m ≤ executed h row → moved es < moved (es ++ row)

-- ---- from a run on

-- the hart is there and runs, in every run
abbrev pub Lasts : (B M : ℕ) → OpeningValue → (h : ℕ) → Type 0
Lasts B M o h = (es : List Entry) → WellFormed B M (history_of o es) → (s : HartState) × (state_of M (history_of o es) h ≡ Some s)
    × (s.status ≡ status.Running)

-- it is there, and runs or has ended
abbrev pub RunsOrEnds : (B M : ℕ) → OpeningValue → (h : ℕ) → Type 0
RunsOrEnds B M o h = (es : List Entry) → WellFormed B M (history_of o es) → (s : HartState) × (state_of M (history_of o es) h ≡ Some s)
    × ((s.status ≡ status.Running) ⊎ (s.status ≡ status.Ended))

-- the one or the other
abbrev pub KeepsRunning : (always : Bool) → (B M : ℕ) → OpeningValue → (h : ℕ) → Type 0
KeepsRunning true B M o h = Lasts B M o h
KeepsRunning false B M o h = RunsOrEnds B M o h

abbrev pub HasEnded : (M : ℕ) → OpeningValue → (h : ℕ) → List Entry → Type 0
HasEnded M o h es = IsStatus M (history_of o es) h status.Ended

-- after these entries of a run others may follow, and then it is so
pub record Comes (B M : ℕ) (o : OpeningValue) (IsSo : List Entry → Type 0) (es : List Entry) : Type 0 where
  pub later : List Entry
  pub run : WellFormed B M (history_of o (es ++ later))
  pub so : IsSo (es ++ later)

-- more has moved than after these entries
abbrev pub MovesOn : (moved : List Entry → ℕ) → (es : List Entry) → List Entry → Type 0
MovesOn moved es fs = moved es < moved fs

-- or one of two harts has ended
abbrev pub MovesOnOrEnds : (M : ℕ) → OpeningValue → (g h : ℕ) → (moved : List Entry → ℕ) → (es : List Entry) → List Entry → Type 0
MovesOnOrEnds M o g h moved es fs = MovesOn moved es fs ⊎ (HasEnded M o g fs ⊎ HasEnded M o h fs)

-- after these entries of a run others may follow, and in the end more has moved, or, unless harts g and h always run, one of them has ended
abbrev pub Arrives : (always : Bool) → (B M : ℕ) → OpeningValue → (g h : ℕ) → (moved : List Entry → ℕ) → List Entry → Type 0
Arrives true B M o g h moved es = Comes B M o (MovesOn moved es) es
Arrives false B M o g h moved es = Comes B M o (MovesOnOrEnds M o g h moved es) es

-- how many positions of queue i have moved
abbrev pub moved_at : QueueCertificate → (i : ℕ) → List Entry → ℕ
moved_at c i es = all_moved (counts_at c i es)
