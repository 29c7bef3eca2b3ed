-- Whole runs: the window, and what moves a count in memory.
use Rattle.std.proofs.Common.{ℕ, ◌<◌, ◌≤◌, ◌≡◌, ◌==◌, ◌⊎◌, inl, inr, Bool, List, [], ◌∷◌, ◌++◌, length, take, Some, None, refl, sym, ◌∙◌, ap, subst, arith}
use Rattle.std.proofs.Common.{append-nil, append_assoc}
use Rattle.std.specs.Prelude.{All, slice_index_or}
use Rattle.std.proofs.lemmas.List.Elements.{All-head, All-tail}
use Rattle.memory.specs.declared.writes.Write.{Write}
use Rattle.memory.specs.Writes.{write}
use Rattle.step_machine.specs.declared.events.Entry.{Entry}
use Rattle.step_machine.specs.Names.{OpeningValue, history_of, Access, nothing, load, store, exchange, fence, land, access_of, hart_of, stored_by, landed_by}
use Rattle.step_machine.specs.Names.{written_by, write_of, pending, own_stores, lands, read, AllowedBy, Allowed, LegalAfter, Legal}
use Rattle.step_machine.proofs.{LegalAfter-front, LegalAfter-back, LegalAfter-append, balanced, some_first}
use Rattle.store_buffers.specs.StoreBuffers.{memory_number}
use Rattle.queue_parties.specs.Parties.{Party, the_sender, the_receiver, other, QueueCounts, IsWindow, count, known}
use Rattle.queue_parties.proofs.Parties.{Whose, mine, theirs, whose, harts-apart, two, twice, count-set, count-set-other, known-set-count}
use Rattle.slot_queue.specs.{Queue, index_word, IsQueue, IsAtRest, KeepsOff, party_of, hart, index, end, after_load, after_store, moved, after_access}
use Rattle.slot_queue.specs.{counts_next, counts_after, MayStore, KeepsAccess, KeepsOwnership, FollowsOwnership, moved_on}
use Rattle.slot_queue.proofs.Sides.{Leaves, Side, off-leaves, stores-clean, stores-leave, stores-room, moved-leaves, moved-same}
use Rattle.slot_queue.proofs.Steps.{stays, stores, stores-past, exchanges, exchanges-past, exchanges-same, lands-one}
use Rattle.queue_parties.proofs.Positions.{end-set-count}
use Rattle.slot_queue.proofs.Looks.{Bounds, bounds, sides-looked}
use Rattle.std.proofs.Common.{ℕ, ◌≡◌, ◌≢◌, inl, inr, List, [], ◌∷◌, ◌++◌, take, refl, sym, ◌∙◌, ap, subst, arith, append_assoc}
use Rattle.std.proofs.lemmas.List.Elements.{All-take}
use Rattle.memory.specs.declared.writes.Write.{Write}
use Rattle.memory.specs.Writes.{write}
use Rattle.step_machine.specs.declared.events.Entry.{Entry}
use Rattle.step_machine.specs.Names.{OpeningValue, Access, exchange, land, access_of, hart_of, written_by, write_of, pending, Allowed}
use Rattle.step_machine.specs.Names.{LegalAfter}
use Rattle.step_machine.proofs.{LegalAfter-front, LegalAfter-back}
use Rattle.queue_parties.specs.Parties.{Party, other, QueueCounts, count}
use Rattle.queue_parties.proofs.Parties.{Whose, mine, theirs, whose, two, twice, keeps-front, keeps-at}
use Rattle.queue_parties.proofs.Landed.{Moves}
use Rattle.queue_parties.proofs.Positions.{Shape}
use Rattle.queue_parties.proofs.Runs.{Counting}
use Rattle.slot_queue.specs.{Queue, IsQueue, party_of, hart, after_load, moved, counts_next, counts_after, MayStore, KeepsAccess, KeepsEntry, KeepsOwnership}
use Rattle.slot_queue.specs.{FollowsOwnership, moved_on}
use Rattle.slot_queue.proofs.Sides.{Leaves, Side, off-leaves, stores-leave, moved-leaves, moved-same, moved-more}

-- what is stored at once or later leaves known counts
pub stored-known : (q : Queue) (r p : Party) (w : Write) (c : QueueCounts) → known p (after_store q r w c) ≡ known p c
stored-known q r p w c = known-set-count r p (moved q r (count r c) w) c

pub stored-end : (q : Queue) (r p : Party) (w : Write) (c : QueueCounts) → end q p (after_store q r w c) ≡ end q p c
stored-end q r p w c = end-set-count q.capacity r p (moved q r (count r c) w) c

module _ (B : ℕ) (q : Queue) (is : IsQueue q) (o : OpeningValue) (es : List Entry) (e : Entry)
    (even : (h : ℕ) → lands h es ≤ length (own_stores h es)) where
  abbrev after : List Entry
  after = es ++ e ∷ []

  abbrev pub Held : QueueCounts → (Party → ℕ) → Type 0
  Held c m = (p : Party) → Side q o es c p (m p)

  -- what memory's counts are then
  abbrev pub next : (Party → ℕ) → Party → ℕ
  next m p = moved_on q p (m p) (write_of es e)

  abbrev pub Holds : QueueCounts → (Party → ℕ) → Type 0
  Holds c m = (p : Party) → Side q o after c p (next m p)

  quiet : (x : Access) → access_of e ≡ x → ((b : Bool) → stored_by b x ≡ []) → ((b : Bool) → landed_by b x ≡ 0)
      → ((ws : List Write) → written_by ws x ≡ []) → (c : QueueCounts) (m : Party → ℕ) → Held c m → Holds c m
  quiet x does unstored unlanded unwritten c m sides p = stays q is o es e even c p (m p) (sides p) c
      (ap (written_by (take 1 (pending (hart_of e) es))) does ∙ unwritten (take 1 (pending (hart_of e) es)))
      (λ g. ap (stored_by (hart_of e == g)) does ∙ unstored (hart_of e == g))
      (λ g. ap (landed_by (hart_of e == g)) does ∙ unlanded (hart_of e == g)) refl (sides p).known_less (sides p).room

  unstored_load : (a width v : ℕ) (b : Bool) → stored_by b (load a width v) ≡ []
  unstored_load a width v b = refl

  loads : (r : Party) → hart_of e ≡ hart q r → (a width v : ℕ) → access_of e ≡ load a width v → v ≡ read o es (hart_of e) a width
      → (c : QueueCounts) (m : Party → ℕ) → Held c m → Holds (after_load q r a width v c) m
  loads r at a width v does is_read c m sides = quiet (load a width v) does (λ b. refl) (λ b. refl) (λ ws. refl) (after_load q r a width v c) m
      (sides-looked q is o es c m sides r a width v (is_read ∙ ap (λ g. read o es g a width) at))

  stores-by : (r : Party) → hart_of e ≡ hart q r → (w : Write) → access_of e ≡ store w → (c : QueueCounts) (m : Party → ℕ) → MayStore q r c w → Held c m
      → Holds (after_store q r w c) m
  stores-by r at w does c m may sides p = by (two r p)
    where
      by : (p ≡ r) ⊎ (p ≡ other r) → Side q o after (after_store q r w c) p (next m p)
      by (inl same) = subst (λ t. Side q o after (after_store q r w c) t (next m t)) (sym same)
          (stores q is o es e even c r (m r) (sides r) w does (after_store q r w c) at (stores-clean q is r c w may)
          (count-set r (moved q r (count r c) w) c)
          (let k : known (other r) (after_store q r w c) ≡ known (other r) c = stored-known q r (other r) w c in omega (arith, k, (sides r).known_less))
          (let n : count r (after_store q r w c) ≡ moved q r (count r c) w = count-set r (moved q r (count r c) w) c in
          let k : end q r (after_store q r w c) ≡ end q r c = stored-end q r r w c in
          let room : moved q r (count r c) w ≤ end q r c = stores-room q is r c w may (sides r).room in omega (arith, n, k, room)))
      by (inr same) = subst (λ t. Side q o after (after_store q r w c) t (next m t)) (sym same)
          (stores-past q is o es e even c (other r) (m (other r)) (sides (other r)) w does (after_store q r w c)
          (λ s. harts-apart q.sender q.receiver is.parties r (sym at ∙ s))
          (stores-leave q is (other r) c w (subst (λ t. MayStore q t c w) (sym (twice r)) may))
          (count-set-other r (moved q r (count r c) w) c)
          (let k : known (other (other r)) (after_store q r w c) ≡ known (other (other r)) c = stored-known q r (other (other r)) w c in
          omega (arith, k, (sides (other r)).known_less))
          (let n : count (other r) (after_store q r w c) ≡ count (other r) c = count-set-other r (moved q r (count r c) w) c in
          let k : end q (other r) (after_store q r w c) ≡ end q (other r) c = stored-end q r (other r) w c in omega (arith, n, k, (sides (other r)).room)))

  exchanges-by : (r : Party) → hart_of e ≡ hart q r → (a old new : ℕ) → access_of e ≡ exchange a old new → pending (hart_of e) es ≡ []
      → (c : QueueCounts) (m : Party → ℕ) → MayStore q r c (write a 4 new) → Held c m → Holds (after_store q r (write a 4 new) c) m
  exchanges-by r at a old new does none c m may sides p = by (two r p)
    where
      w : Write
      w = write a 4 new

      by : (p ≡ r) ⊎ (p ≡ other r) → Side q o after (after_store q r (write a 4 new) c) p (next m p)
      by (inl same) = subst (λ t. Side q o after (after_store q r (write a 4 new) c) t (next m t)) (sym same)
          (exchanges q is o es e even c r (m r) (sides r) a old new does (after_store q r (write a 4 new) c) (ap (λ g. pending g es) (sym at) ∙ none)
          (stores-clean q is r c (write a 4 new) may)
          (count-set r (moved q r (count r c) (write a 4 new)) c)
          (let k : known (other r) (after_store q r (write a 4 new) c) ≡ known (other r) c = stored-known q r (other r) (write a 4 new) c in
          omega (arith, k, (sides r).known_less))
          (let n : count r (after_store q r (write a 4 new) c) ≡ moved q r (count r c) (write a 4 new) =
          count-set r (moved q r (count r c) (write a 4 new)) c in
          let k : end q r (after_store q r (write a 4 new) c) ≡ end q r c = stored-end q r r (write a 4 new) c in
          let room : moved q r (count r c) (write a 4 new) ≤ end q r c = stores-room q is r c (write a 4 new) may (sides r).room in omega (arith, n, k, room)))
      by (inr same) = subst (λ t. Side q o after (after_store q r (write a 4 new) c) t (next m t)) (sym same)
          (exchanges-past q is o es e even c (other r) (m (other r)) (sides (other r)) a old new does (after_store q r (write a 4 new) c)
          (stores-leave q is (other r) c (write a 4 new) (subst (λ t. MayStore q t c (write a 4 new)) (sym (twice r)) may))
          (count-set-other r (moved q r (count r c) (write a 4 new)) c)
          (let k : known (other (other r)) (after_store q r (write a 4 new) c) ≡ known (other (other r)) c =
          stored-known q r (other (other r)) (write a 4 new) c in
          omega (arith, k, (sides (other r)).known_less))
          (let n : count (other r) (after_store q r (write a 4 new) c) ≡ count (other r) c = count-set-other r (moved q r (count r c) (write a 4 new)) c in
          let k : end q (other r) (after_store q r (write a 4 new) c) ≡ end q (other r) c = stored-end q r (other r) (write a 4 new) c in
          omega (arith, n, k, (sides (other r)).room)))

  -- an AMO that writes the word that it read: the count is the one that the index has in memory, since nothing is pending
  exchanges-back : (r : Party) → hart_of e ≡ hart q r → (a old new : ℕ) → access_of e ≡ exchange a old new → new ≡ old → Allowed B o es e
      → (c : QueueCounts) (m : Party → ℕ) → Held c m → Holds (after_store q r (write a 4 new) c) m
  exchanges-back r at a old new does same can c m sides p = by (two r p)
    where
      w : Write
      w = write a 4 new

      none : pending (hart q r) es ≡ []
      none = ap (λ g. pending g es) (sym at) ∙ (subst (AllowedBy B (pending (hart_of e) es) (read o es (hart_of e))) does can).0

      level : m r ≡ count r c
      level = sym (ap (moved_on q r (m r)) none) ∙ (sides r).count_is

      still : moved q r (count r c) w ≡ count r c
      still = ap (λ n. moved q r n w) (sym level) ∙ moved-same q is B o es e a old new does same can r (m r) (sides r).word ∙ level

      by : (p ≡ r) ⊎ (p ≡ other r) → Side q o after (after_store q r w c) p (next m p)
      by (inl here) = subst (λ t. Side q o after (after_store q r w c) t (next m t)) (sym here)
          (exchanges-same q is o es e even c r (m r) (sides r) a old new does (after_store q r w c) B same can
          (count-set r (moved q r (count r c) w) c ∙ still)
          (let k : known (other r) (after_store q r w c) ≡ known (other r) c = stored-known q r (other r) w c in omega (arith, k, (sides r).known_less))
          (let n : count r (after_store q r w c) ≡ moved q r (count r c) w = count-set r (moved q r (count r c) w) c in
          let k : end q r (after_store q r w c) ≡ end q r c = stored-end q r r w c in omega (arith, n, k, still, (sides r).room)))
      by (inr there) = subst (λ t. Side q o after (after_store q r w c) t (next m t)) (sym there)
          (exchanges-same q is o es e even c (other r) (m (other r)) (sides (other r)) a old new does (after_store q r w c) B same can
          (count-set-other r (moved q r (count r c) w) c)
          (let k : known (other (other r)) (after_store q r w c) ≡ known (other (other r)) c = stored-known q r (other (other r)) w c in
          omega (arith, k, (sides (other r)).known_less))
          (let n : count (other r) (after_store q r w c) ≡ count (other r) c = count-set-other r (moved q r (count r c) w) c in
          let k : end q (other r) (after_store q r w c) ≡ end q (other r) c = stored-end q r (other r) w c in omega (arith, n, k, (sides (other r)).room)))

  lands-by : access_of e ≡ land → 0 < length (pending (hart_of e) es) → (c : QueueCounts) (m : Party → ℕ) → Held c m → Holds c m
  lands-by does some c m sides p =
      let split = some_first (pending (hart_of e) es) some in lands-one q is o es e even c p (m p) (sides p) does split.0 split.1 split.2

  -- of whichever hart
  acts : (x : Access) → access_of e ≡ x → Allowed B o es e → Whose q.sender q.receiver (hart_of e)
      → (c : QueueCounts) (m : Party → ℕ) → KeepsAccess q (party_of q (hart_of e)) c x
      → AllowedBy B (pending (hart_of e) es) (read o es (hart_of e)) x → Held c m → Holds (after_access q (party_of q (hart_of e)) x c) m
  acts x does can (mine r at party) c m keeps allowed sides = subst (λ t. Holds (after_access q t x c) m) (sym party)
      (by x does (subst (λ t. KeepsAccess q t c x) party keeps) allowed)
    where
      by : (x : Access) → access_of e ≡ x → KeepsAccess q (Some r) c x → AllowedBy B (pending (hart_of e) es) (read o es (hart_of e)) x
          → Holds (after_access q (Some r) x c) m
      by nothing does keeps allowed = quiet nothing does (λ b. refl) (λ b. refl) (λ ws. refl) c m sides
      by (load a width v) does keeps allowed = loads r at a width v does allowed c m sides
      by (store w) does keeps allowed = stores-by r at w does c m keeps sides
      by (exchange a old new) does keeps allowed = elim keeps [
        | inl same ↦ exchanges-back r at a old new does same can (after_load q r a 4 old c) m looked_sides
        | inr may ↦ exchanges-by r at a old new does allowed.0 (after_load q r a 4 old c) m may looked_sides
      ]
        where
          looked_sides : Held (after_load q r a 4 old c) m
          looked_sides = sides-looked q is o es c m sides r a 4 old (allowed.1 ∙ ap (λ g. read o es g a 4) at)
      by (fence full) does keeps allowed = quiet (fence full) does (λ b. refl) (λ b. refl) (λ ws. refl) c m sides
      by land does keeps allowed = lands-by does allowed c m sides
  acts x does can (theirs apart party) c m keeps allowed sides = subst (λ t. Holds (after_access q t x c) m) (sym party)
      (by x does (subst (λ t. KeepsAccess q t c x) party keeps) allowed)
    where
      by : (x : Access) → access_of e ≡ x → KeepsAccess q None c x → AllowedBy B (pending (hart_of e) es) (read o es (hart_of e)) x
          → Holds (after_access q None x c) m
      by nothing does keeps allowed = quiet nothing does (λ b. refl) (λ b. refl) (λ ws. refl) c m sides
      by (load a width v) does keeps allowed = quiet (load a width v) does (λ b. refl) (λ b. refl) (λ ws. refl) c m sides
      by (store w) does keeps allowed = λ p. stores-past q is o es e even c p (m p) (sides p) w does c (apart p) (off-leaves q is p w keeps)
          refl (sides p).known_less (sides p).room
      by (exchange a old new) does keeps allowed = elim keeps [
        | inl same ↦ λ p. exchanges-same q is o es e even c p (m p) (sides p) a old new does c B same can refl (sides p).known_less (sides p).room
        | inr off ↦ λ p. exchanges-past q is o es e even c p (m p) (sides p) a old new does c
            (off-leaves q is p (write a 4 new) off) refl (sides p).known_less (sides p).room
      ]
      by (fence full) does keeps allowed = quiet (fence full) does (λ b. refl) (λ b. refl) (λ ws. refl) c m sides
      by land does keeps allowed = lands-by does allowed c m sides

  pub one-on : (c : QueueCounts) (m : Party → ℕ) → KeepsAccess q (party_of q (hart_of e)) c (access_of e) → Allowed B o es e → Held c m
      → Holds (counts_next q c e) m
  one-on c m keeps allowed sides = acts (access_of e) refl allowed (whose q.sender q.receiver (hart_of e)) c m keeps allowed sides

-- ---- whole runs

-- what memory's counts are after more entries
unfoldable pub memory_counts : Queue → (Party → ℕ) → (before es : List Entry) → Party → ℕ
memory_counts q m before [] = m
memory_counts q m before (e ∷ es) = memory_counts q (λ p. moved_on q p (m p) (write_of before e)) (before ++ e ∷ []) es

pub memory-last : (q : Queue) (m : Party → ℕ) (before es : List Entry) (e : Entry) (p : Party)
    → memory_counts q m before (es ++ e ∷ []) p ≡ moved_on q p (memory_counts q m before es p) (write_of (before ++ es) e)
unfolding memory_counts
memory-last q m before [] e p = ap (λ xs. moved_on q p (m p) (write_of xs e)) (sym (append-nil before))
memory-last q m before (d ∷ es) e p = memory-last q (λ t. moved_on q t (m t) (write_of before d)) (before ++ d ∷ []) es e p
    ∙ ap (λ xs. moved_on q p (memory_counts q (λ t. moved_on q t (m t) (write_of before d)) (before ++ d ∷ []) es p)
    (write_of xs e)) (append_assoc before (d ∷ []) es)

pub holds-after : (B : ℕ) (q : Queue) (is : IsQueue q) (o : OpeningValue) (before : List Entry) (c : QueueCounts) (m : Party → ℕ) (es : List Entry)
    → ((p : Party) → Side q o before c p (m p)) → Legal B (history_of o before) → LegalAfter B o before es → KeepsOwnership q c es
    → (p : Party) → Side q o (before ++ es) (counts_after q c es) p (memory_counts q m before es p)
unfolding memory_counts
holds-after B q is o before c m [] sides legal later keeps p = subst (λ xs. Side q o xs c p (m p)) (sym (append-nil before)) (sides p)
holds-after B q is o before c m (e ∷ es) sides legal later keeps p =
    subst (λ xs. Side q o xs (counts_after q (counts_next q c e) es) p (memory_counts q (λ t. moved_on q t (m t) (write_of before e)) (before ++ e ∷ []) es p))
    (append_assoc before (e ∷ []) es)
    (holds-after B q is o (before ++ e ∷ []) (counts_next q c e) (λ t. moved_on q t (m t) (write_of before e)) es
    (one-on B q is o before e (λ h. balanced B (history_of o before) h legal) c m keeps.0 later.0 sides)
    (LegalAfter-append B o [] before (e ∷ []) legal (later.0, tt)) later.1 keeps.1 p)

-- where the queue was empty and at rest
all-leave : (q : Queue) (is : IsQueue q) (p : Party) (ws : List Write) → All (KeepsOff q) ws → All (Leaves q p) ws
all-leave q is p ws all k d less = off-leaves q is p (slice_index_or ws k d) (all k d less)

pub unmoved : (q : Queue) → IsQueue q → (p : Party) (n : ℕ) (ws : List Write) → All (Leaves q p) ws → moved_on q p n ws ≡ n
unmoved q is p n [] all = refl
unmoved q is p n (w ∷ ws) all = ap (λ k. moved_on q p k ws) (moved-leaves q is p n w (All-head (Leaves q p) w ws all))
    ∙ unmoved q is p n ws (All-tail (Leaves q p) w ws all)

pub at-rest : (q : Queue) (is : IsQueue q) (o : OpeningValue) (before : List Entry) (c : QueueCounts) → IsAtRest q o before c
    → (p : Party) → Side q o before c p (count p c)
at-rest q is o before c rest p = record {
  word = word p;
  count_is = unmoved q is p (count p c) (pending (hart q p) before) (all-leave q is p (pending (hart q p) before) (rest.pending (hart q p)));
  known_less = less p;
  own = λ k d less. inl (all-leave q is p (pending (hart q p) before) (rest.pending (hart q p)) k d less);
  others = λ h apart. all-leave q is p (pending h before) (rest.pending h);
  room = room p;
}
  where
    word : (p : Party) → memory_number o before (index q p) q.index_width ≡ index_word q (count p c)
    word the_sender = rest.head
    word the_receiver = rest.tail

    less : (p : Party) → known (other p) c ≤ count p c
    less the_sender = rest.window.known_published
    less the_receiver = rest.window.known_taken

    room : (p : Party) → count p c ≤ end q p c
    room the_sender = rest.window.published
    room the_receiver = rest.window.taken

-- the counts with which the indices stand in memory, after a run's entries
abbrev pub memory_at : Queue → QueueCounts → (before es : List Entry) → Party → ℕ
memory_at q start before es = memory_counts q (λ t. count t start) before es

pub sides-of : (B : ℕ) (q : Queue) (start : QueueCounts) (o : OpeningValue) (before es : List Entry) → FollowsOwnership B q start o before es
    → (p : Party) → Side q o (before ++ es) (counts_after q start es) p (memory_at q start before es p)
sides-of B q start o before es f = holds-after B q f.queue o before start (λ t. count t start) es (at-rest q f.queue o before start f.rest)
    (LegalAfter-front B o [] before es f.legal) (LegalAfter-back B o [] before es f.legal) f.keeps

-- the window
pub window : (B : ℕ) (q : Queue) (start : QueueCounts) (o : OpeningValue) (before es : List Entry)
    → FollowsOwnership B q start o before es → IsWindow q.capacity (counts_after q start es)
window B q start o before es f =
    let m : Party → ℕ = memory_at q start before es in
    let s : Bounds q (counts_after q start es) the_sender (m the_sender) = bounds q o (before ++ es)
    (counts_after q start es) the_sender (m the_sender) (sides-of B q start o before es f the_sender) in
    let t : Bounds q (counts_after q start es) the_receiver (m the_receiver) =
    bounds q o (before ++ es) (counts_after q start es) the_receiver (m the_receiver) (sides-of B q start o before es f the_receiver) in
    record {
      known_published = omega (arith, s.known_there, s.there);
      published = s.count_end;
      known_taken = omega (arith, t.known_there, t.there);
      taken = omega (arith, t.count_end);
    }

-- ---- what moves a count in memory: a party's own writes alone

-- what another hart's entry writes leaves the count of the party's index in memory
module _ (B : ℕ) (q : Queue) (is : IsQueue q) (o : OpeningValue) (es : List Entry) (e : Entry) (c : QueueCounts) (p : Party) (m : ℕ) (side : Side q o es c p m)
    (apart : hart_of e ≢ hart q p) (allowed : Allowed B o es e) where
  -- an AMO by whichever party or third hart
  amo-unmoved : (a old new : ℕ) → access_of e ≡ exchange a old new → KeepsAccess q (party_of q (hart_of e)) c (exchange a old new)
      → moved_on q p m (write a 4 new ∷ []) ≡ m
  amo-unmoved a old new does keeps = by (whose q.sender q.receiver (hart_of e))
    where
      back : new ≡ old → moved_on q p m (write a 4 new ∷ []) ≡ m
      back same = moved-same q is B o es e a old new does same allowed p m side.word

      by : Whose q.sender q.receiver (hart_of e) → moved_on q p m (write a 4 new ∷ []) ≡ m
      by (theirs far party) = grind (arith, back, moved-leaves, off-leaves)
      by (mine r at party) = elim (two r p) [
        | inl same ↦ absurd (apart (at ∙ ap (hart q) (sym same)))
        | inr same ↦ elim (subst (λ t. KeepsAccess q t c (exchange a old new)) party keeps) [
          | inl level ↦ back level
          | inr may ↦ moved-leaves q is p m (write a 4 new) (stores-leave q is p (after_load q r a 4 old c) (write a 4 new)
              (subst (λ t. MayStore q t (after_load q r a 4 old c) (write a 4 new)) (sym (ap other same ∙ twice r)) may))
        ]
      ]

  pub others-unmoved : KeepsAccess q (party_of q (hart_of e)) c (access_of e) → moved_on q p m (write_of es e) ≡ m
  others-unmoved keeps = by (access_of e) refl keeps
    where
      ws : List Write
      ws = take 1 (pending (hart_of e) es)

      by : (x : Access) → access_of e ≡ x → KeepsAccess q (party_of q (hart_of e)) c x → moved_on q p m (written_by ws x) ≡ m
      by land does keeps = unmoved q is p m ws (All-take (Leaves q p) 1 (pending (hart_of e) es) (side.others (hart_of e) apart))
      by (exchange a old new) does keeps = amo-unmoved a old new does keeps
      by x does keeps = refl

pub follows-front : (B : ℕ) (q : Queue) (start : QueueCounts) (o : OpeningValue) (before es fs : List Entry) → FollowsOwnership B q start o before (es ++ fs)
    → FollowsOwnership B q start o before es
follows-front B q start o before es fs f = record {
  queue = f.queue;
  legal = LegalAfter-front B o [] (before ++ es) fs (subst (LegalAfter B o []) (sym (append_assoc before es fs)) f.legal);
  rest = f.rest;
  keeps = keeps-front (counts_next q) (KeepsEntry q) start es fs f.keeps;
}

-- the two harts and the slots, of which all else is said in queue_parties
abbrev pub shape : Queue → Shape
shape q = record { sender = q.sender; receiver = q.receiver; slots = q.slots; width = q.width; size = q.size; capacity = q.capacity }

module _ (B : ℕ) (q : Queue) (start : QueueCounts) (o : OpeningValue) (before es : List Entry) (f : FollowsOwnership B q start o before es) (p : Party) where
  side-of : (done rest : List Entry) → es ≡ done ++ rest → Side q o (before ++ done) (counts_after q start done) p (memory_at q start before done p)
  side-of done rest split = sides-of B q start o before done
      (follows-front B q start o before done rest (subst (FollowsOwnership B q start o before) split f)) p

  moves : (done : List Entry) (e : Entry) (rest : List Entry) → es ≡ done ++ e ∷ rest → Moves B o (hart q p) (moved q p) (moved-more q p) (before ++ done) e
      (memory_at q start before done p) (memory_at q start before (done ++ e ∷ []) p)
  moves done e rest split = (
    λ here. memory-last q (λ t. count t start) before done e p,
    λ apart. memory-last q (λ t. count t start) before done e p ∙ others-unmoved B q f.queue o (before ++ done) e (counts_after q start done) p
        (memory_at q start before done p) (side-of done (e ∷ rest) split) apart (LegalAfter-back B o [] (before ++ done) (e ∷ rest)
        (subst (LegalAfter B o []) (ap (λ xs. before ++ xs) split ∙ sym (append_assoc before done (e ∷ rest))) f.legal)).0
        (keeps-at (counts_next q) (KeepsEntry q) start done e rest (subst (KeepsOwnership q start) split f.keeps)),
  )

  pub counting : Counting (shape q) (counts_next q) start B o before es p
  counting = record {
    moved = moved q p;
    more_moved = moved-more q p;
    memory = λ done. memory_at q start before done p;
    moves = moves;
    count_is = λ done rest is. (side-of done rest is).count_is;
    known_less = (sides-of B q start o before es f p).known_less;
  }
