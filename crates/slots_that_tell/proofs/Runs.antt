-- Whole runs: the window, what a look says, and what moves a count in memory.
use Rattle.std.proofs.Common.{ℕ, ◌+◌, ◌<◌, ◌≤◌, ◌≡◌, inl, true, false, List, [], ◌∷◌, ◌++◌, refl, sym, ◌∙◌, ap, subst, arith, append-nil, append_assoc}
use Rattle.std.specs.Prelude.{All, slice_index_or}
use Rattle.std.proofs.lemmas.List.Elements.{All-head, All-tail}
use Rattle.memory.specs.declared.writes.Write.{Write}
use Rattle.step_machine.specs.declared.events.Entry.{Entry}
use Rattle.step_machine.specs.Names.{OpeningValue, history_of, hart_of, pending, read, load, access_of, AllowedBy, LegalAfter, Legal}
use Rattle.step_machine.proofs.{LegalAfter-front, LegalAfter-back, LegalAfter-append, balanced}
use Rattle.queue_parties.specs.Parties.{Party, the_sender, the_receiver, other, QueueCounts, count, known, IsWindow}
use Rattle.slots_that_tell.specs.Slots.{Slots, IsSlots, RestsAt, KeepsOff, gap, tag_of, memory_tag}
use Rattle.slots_that_tell.specs.{teller_hart, after_entry, told_counts, KeepsTelling, FollowsTelling, moved_on}
use Rattle.slots_that_tell.proofs.Places.{LeavesTags, moved-leaves, off-leaves}
use Rattle.slots_that_tell.proofs.Sides.{Tidy, Side, Held, within}
use Rattle.slots_that_tell.proofs.Looks.{false_tag}
use Rattle.slots_that_tell.proofs.Steps.{next, one-on}
use Rattle.std.proofs.Common.{◌≤◌, ◌≡◌, List, [], ◌∷◌, ◌++◌, length, refl, sym, ℕ, ◌∙◌, subst, append_assoc}
use Rattle.step_machine.specs.declared.events.Entry.{Entry}
use Rattle.step_machine.specs.Names.{OpeningValue, history_of, write_of, own_stores, lands, LegalAfter}
use Rattle.step_machine.proofs.{LegalAfter-front, balanced}
use Rattle.queue_parties.specs.Parties.{Party, QueueCounts, count}
use Rattle.queue_parties.proofs.Parties.{keeps-front}
use Rattle.queue_parties.proofs.Landed.{Moves}
use Rattle.queue_parties.proofs.Positions.{Shape}
use Rattle.queue_parties.proofs.Runs.{Counting}
use Rattle.slots_that_tell.specs.Slots.{Slots}
use Rattle.slots_that_tell.specs.{KeepsEntry, teller_hart, after_entry, told_counts, moved, FollowsTelling}
use Rattle.slots_that_tell.proofs.Sides.{Held, moved-more}
use Rattle.slots_that_tell.proofs.Steps.{next-mine, next-other}

-- what memory's counts are after more entries
unfoldable pub memory_counts : Slots → (Party → ℕ) → (before es : List Entry) → Party → ℕ
memory_counts q m before [] = m
memory_counts q m before (e ∷ es) = memory_counts q (next q before e m) (before ++ e ∷ []) es

-- the counts that the tags in memory stand for, after a run's entries
abbrev pub memory_at : Slots → QueueCounts → (before es : List Entry) → Party → ℕ
memory_at q start before es = memory_counts q (λ t. count t start) before es

pub memory-last : (q : Slots) (m : Party → ℕ) (before es : List Entry) (e : Entry) (p : Party)
    → memory_counts q m before (es ++ e ∷ []) p ≡ next q (before ++ es) e (memory_counts q m before es) p
unfolding memory_counts
memory-last q m before [] e p = rw append-nil refl
memory-last q m before (d ∷ es) e p = rw (← append_assoc before (d ∷ []) es) (memory-last q (next q before d m) (before ++ d ∷ []) es e p)

pub holds-after : (B : ℕ) (q : Slots) (is : IsSlots q) (o : OpeningValue) (before : List Entry) (c : QueueCounts) (m : Party → ℕ) (es : List Entry)
    → Held q o before c m → Legal B (history_of o before) → LegalAfter B o before es → KeepsTelling q c es
    → Held q o (before ++ es) (told_counts q c es) (memory_counts q m before es)
unfolding memory_counts
holds-after B q is o before c m [] held legal later keeps = subst (λ xs. Held q o xs c m) (sym (append-nil before)) held
holds-after B q is o before c m (e ∷ es) held legal later keeps =
    subst (λ xs. Held q o xs (told_counts q (after_entry q c e) es) (memory_counts q (next q before e m) (before ++ e ∷ []) es))
    (append_assoc before (e ∷ []) es)
    (holds-after B q is o (before ++ e ∷ []) (after_entry q c e) (next q before e m) es
    (one-on B q is o before e (λ h. balanced B (history_of o before) h legal) m c keeps.0 later.0 held)
    (LegalAfter-append B o [] before (e ∷ []) legal (later.0, tt)) later.1 keeps.1)

-- where the queue was at rest
all-leave : (q : Slots) (is : IsSlots q) (ws : List Write) → All (KeepsOff q) ws → All (LeavesTags q) ws
all-leave q is ws all k d less = off-leaves q is (slice_index_or ws k d) (all k d less)

pub unmoved : (q : Slots) → IsSlots q → (n : ℕ) (ws : List Write) → All (LeavesTags q) ws → moved_on q n ws ≡ n
unmoved q is n [] all = refl
unmoved q is n (w ∷ ws) all = ap (λ k. moved_on q k ws) (moved-leaves q is n w (All-head (LeavesTags q) w ws all))
    ∙ unmoved q is n ws (All-tail (LeavesTags q) w ws all)

tidy-leaves : (q : Slots) → IsSlots q → (p : Party) (n : ℕ) (ws : List Write) → All (LeavesTags q) ws → Tidy q p n ws
tidy-leaves q is p n [] all = tt
tidy-leaves q is p n (w ∷ ws) all = (
  inl (All-head (LeavesTags q) w ws all),
  subst (λ k. Tidy q p k ws) (sym (moved-leaves q is n w (All-head (LeavesTags q) w ws all))) (tidy-leaves q is p n ws (All-tail (LeavesTags q) w ws all)),
)

pub at-rest : (q : Slots) (is : IsSlots q) (o : OpeningValue) (before : List Entry) (start : QueueCounts) → RestsAt q o before start
    → Held q o before start (λ t. count t start)
at-rest q is o before start rest = record {
  side = side;
  third = λ h far. all-leave q is (pending h before) (rest.pending h);
  tags = tags;
}
  where
    side : (p : Party) → Side q before start p (count p start)
    side p = record {
      count_is = unmoved q is (count p start) (pending (teller_hart q p) before)
          (all-leave q is (pending (teller_hart q p) before) (rest.pending (teller_hart q p)));
      known_less = less p;
      own = tidy-leaves q is p (count p start) (pending (teller_hart q p) before)
          (all-leave q is (pending (teller_hart q p) before) (rest.pending (teller_hart q p)));
      room = room p;
    }
      where
        less : (p : Party) → known (other p) start ≤ count p start
        less the_sender = rest.window.known_published
        less the_receiver = rest.window.known_taken

        room : (p : Party) → count p start ≤ known p start + gap q (other p)
        room the_sender = rest.window.published
        room the_receiver = omega (arith, rest.window.taken)

    tags : (p : Party) (k : ℕ) → count p start ≤ k → k < count (other p) start + gap q (other p) → q.tells p k (memory_tag q o before k) ≡ true
    tags the_sender k from below = rest.free k from below
    tags the_receiver k from below = rest.full k from (omega (arith, below))

pub held-of : (B : ℕ) (q : Slots) (start : QueueCounts) (o : OpeningValue) (before es : List Entry) → FollowsTelling B q start o before es
    → Held q o (before ++ es) (told_counts q start es) (memory_counts q (λ t. count t start) before es)
held-of B q start o before es f = holds-after B q f.slots o before start (λ t. count t start) es (at-rest q f.slots o before start f.rest)
    (LegalAfter-front B o [] before es f.legal) (LegalAfter-back B o [] before es f.legal) f.keeps

pub window : (B : ℕ) (q : Slots) (start : QueueCounts) (o : OpeningValue) (before es : List Entry)
    → FollowsTelling B q start o before es → IsWindow q.size (told_counts q start es)
window B q start o before es f =
    let m : Party → ℕ = memory_counts q (λ t. count t start) before es in
    let held : Held q o (before ++ es) (told_counts q start es) m = held-of B q start o before es f in
    let s = within q o (before ++ es) (told_counts q start es) m held the_sender in
    let r = within q o (before ++ es) (told_counts q start es) m held the_receiver in
    record {
      known_published = omega (arith, s.0, (held.side the_sender).known_less);
      published = (held.side the_sender).room;
      known_taken = omega (arith, r.0, (held.side the_receiver).known_less);
      taken = omega (arith, (held.side the_receiver).room);
    }

-- a look that fails: the other's pending stores make its count of one at which the position isn't yet this party's
pub look : (B : ℕ) (q : Slots) (start : QueueCounts) (o : OpeningValue) (before es : List Entry) (e : Entry) → FollowsTelling B q start o before (es ++ e ∷ [])
    → (p : Party) (j v : ℕ) → hart_of e ≡ teller_hart q p → access_of e ≡ load (tag_of q j) q.tag_width v
    → count p (told_counts q start es) ≤ j → j < count p (told_counts q start es) + q.size → q.tells p j v ≡ false
    → (i : ℕ) × (i + gap q (other p) ≤ j) × (moved_on q i (pending (teller_hart q (other p)) (before ++ es)) ≡ count (other p) (told_counts q start es))
look B q start o before es e f p j v at does from below silent =
    let legal2 : LegalAfter B o [] ((before ++ es) ++ e ∷ []) = subst (LegalAfter B o []) (sym (append_assoc before es (e ∷ []))) f.legal in
    let run : FollowsTelling B q start o before es = record {
      slots = f.slots;
      legal = LegalAfter-front B o [] (before ++ es) (e ∷ []) legal2;
      rest = f.rest;
      keeps = front q start es (e ∷ []) f.keeps;
    } in
    let m : Party → ℕ = memory_counts q (λ t. count t start) before es in
    let held : Held q o (before ++ es) (told_counts q start es) m = held-of B q start o before es run in
    let allowed : AllowedBy B (pending (hart_of e) (before ++ es)) (read o (before ++ es) (hart_of e)) (access_of e) =
    (LegalAfter-back B o [] (before ++ es) (e ∷ []) legal2).0 in
    let word : v ≡ read o (before ++ es) (teller_hart q p) (tag_of q j) q.tag_width =
    subst (AllowedBy B (pending (hart_of e) (before ++ es)) (read o (before ++ es) (hart_of e))) does allowed
    ∙ ap (λ g. read o (before ++ es) g (tag_of q j) q.tag_width) at in (
      m (other p),
      false_tag q f.slots o (before ++ es) (told_counts q start es) m held p j from below
          (ap (q.tells p j) (sym word) ∙ silent),
      (held.side (other p)).count_is,
    )
  where
    front : (q : Slots) (c : QueueCounts) (es fs : List Entry) → KeepsTelling q c (es ++ fs) → KeepsTelling q c es
    front q c [] fs keeps = tt
    front q c (d ∷ es) fs keeps = (keeps.0, front q (after_entry q c d) es fs keeps.1)

-- ---- what moves a count in memory: a party's own writes alone

pub follows-front : (B : ℕ) (q : Slots) (start : QueueCounts) (o : OpeningValue) (before es fs : List Entry) → FollowsTelling B q start o before (es ++ fs)
    → FollowsTelling B q start o before es
follows-front B q start o before es fs f = record {
  slots = f.slots;
  legal = LegalAfter-front B o [] (before ++ es) fs (subst (LegalAfter B o []) (sym (append_assoc before es fs)) f.legal);
  rest = f.rest;
  keeps = keeps-front (after_entry q) (KeepsEntry q) start es fs f.keeps;
}

-- the two harts and the slots, of which all else is said in queue_parties
abbrev pub shape : Slots → Shape
shape q = record { sender = q.sender; receiver = q.receiver; slots = q.slots; width = q.width; size = q.size; capacity = q.size }

module _ (B : ℕ) (q : Slots) (start : QueueCounts) (o : OpeningValue) (before es : List Entry) (f : FollowsTelling B q start o before es) (p : Party) where
  held-at : (done rest : List Entry) → es ≡ done ++ rest → Held q o (before ++ done) (told_counts q start done) (memory_at q start before done)
  held-at done rest split = held-of B q start o before done (follows-front B q start o before done rest (subst (FollowsTelling B q start o before) split f))

  moves : (done : List Entry) (e : Entry) (rest : List Entry) → es ≡ done ++ e ∷ rest → Moves B o (teller_hart q p) (moved q) (moved-more q) (before ++ done) e
      (memory_at q start before done p) (memory_at q start before (done ++ e ∷ []) p)
  moves done e rest split =
      let even : (h : ℕ) → lands h (before ++ done) ≤ length (own_stores h (before ++ done)) = λ h.
      balanced B (history_of o (before ++ done)) h
      (follows-front B q start o before done (e ∷ rest) (subst (FollowsTelling B q start o before) split f)).legal
      in (
        λ here. memory-last q (λ t. count t start) before done e p
            ∙ next-mine B q f.slots o (before ++ done) e even (memory_at q start before done) p here (write_of (before ++ done) e) refl,
        λ apart. memory-last q (λ t. count t start) before done e p ∙ next-other B q f.slots o (before ++ done) e even (memory_at q start before done) p apart,
      )

  pub counting : Counting (shape q) (after_entry q) start B o before es p
  counting = record {
    moved = moved q;
    more_moved = moved-more q;
    memory = λ done. memory_at q start before done p;
    moves = moves;
    count_is = λ done rest is. ((held-at done rest is).side p).count_is;
    known_less = ((held-of B q start o before es f).side p).known_less;
  }
