-- Each run that keeps FastForward's protocol keeps that of slots that tell; and what is known at its points.
use Rattle.std.specs.Prelude.{not}
use Rattle.std.specs.List.{filter}
use Rattle.spsc_queue.proofs.Common.{ℕ, ◌+◌, ◌≤◌, ◌≡◌, ◌==◌, ◌&&◌, Bool, false, List, [], ◌∷◌, ◌++◌, length, refl, sym, ◌∙◌, ap, subst, arith, append-nil}
use Rattle.spsc_queue.proofs.Common.{append_assoc, ◌-◌, ◌*◌, ◌%◌, ◌<◌, ◌≢◌, inl, inr, true, cases_eq, eqb-true, Write, Entry, OpeningValue, history_of, store}
use Rattle.spsc_queue.proofs.Common.{access_of, hart_of, own_store, own_stores, lands, write_of, pending, memory_word, read, Allowed, LegalAfter, Legal}
use Rattle.spsc_queue.proofs.Common.{LegalAfter-front, LegalAfter-back, balanced, fastforward, RingBuffer, IsRingBuffer, overlaps, publishes, releases}
use Rattle.spsc_queue.proofs.Common.{slot_offset, slot_address, ProtocolState, at_start, parties_after, role_of, next_by, protocol_next, protocol_after}
use Rattle.spsc_queue.proofs.Common.{KeepsProtocolBy, KeepsProtocol, SenderState, roomy, ReceiverState, asked, waiting, holding, FollowsSpscProtocol}
use Rattle.spsc_queue.proofs.Common.{known_by_state, ready_by_state, counts_at_start, QueueCounts, count, other, All, All-nil, All-cons}
use Rattle.step_machine.proofs.{LegalAfter-append, mod_apart}
use Rattle.spsc_queue.specs.Instances.{ring_slots_of}
use Rattle.spsc_queue.proofs.OwnWords.{Own, own-rest, all-off}
use Rattle.spsc_queue.proofs.Counts.{Steady, steady-off, steady-next, number_of, publishes_to, releases_to, counted, party-is, store-of, counted-released}
use Rattle.spsc_queue.proofs.Counts.{steady-count, filters}
use Rattle.queue_parties.specs.Parties.{Party, the_sender, the_receiver}
use Rattle.queue_parties.proofs.Parties.{count-set}
use Rattle.slots_that_tell.specs.Slots.{Slots, IsSlots, tag_of, memory_tag, IsTagByte}
use Rattle.slots_that_tell.specs.Telling.{teller_of, teller_hart, moved, told_access, after_entry, KeepsEntry, KeepsTelling}
use Rattle.slots_that_tell.specs.Laws.{FollowsTelling, moved_on}
use Rattle.slots_that_tell.proofs.Places.{moved-leaves, off-leaves, LeavesTags, moved-tag, tag-apart}
use Rattle.slots_that_tell.proofs.Sides.{Held, Tidy, moved_on-more, within}
use Rattle.slots_that_tell.proofs.Steps.{one-on, next-mine, next-other}
use Rattle.slots_that_tell.proofs.Runs.{at-rest}
use Rattle.spsc_queue.proofs.FastForwardRings.{is_slots, off-keeps, rests, placed-of, asked-of, Agrees, keeps-one, tag_word, Sending, Receiving, no_copy}
use Rattle.spsc_queue.proofs.FastForwardRings.{sent_place, taken_place}
use Rattle.store_buffers.specs.StoreBuffers.{LeavesByte}
use Rattle.spsc_queue.proofs.States.{IsAsked, Taking}
use Rattle.spsc_queue.proofs.Points.{At}
use Rattle.slots_that_tell.proofs.Looks.{true_tag, false_tag}
use Rattle.slots_that_tell.proofs.Steps as steps

-- a point of a run: how its counts and those in memory agree with the protocol's state

pub record Point (r : RingBuffer) (o : OpeningValue) (es : List Entry) (s : ProtocolState) (c : QueueCounts) (m : Party → ℕ) : Type 0 where
  pub held : Held (ring_slots_of r) o es c m
  pub agrees : Agrees r o es s c
  pub mine : Steady (moved_on (ring_slots_of r)) (publishes_to fastforward r) (m the_sender) (pending r.sender es)
  pub theirs : Steady (moved_on (ring_slots_of r)) (releases_to fastforward r) (m the_receiver) (pending r.receiver es)

next-point : (B : ℕ) (r : RingBuffer) (is : IsRingBuffer r) (kind : r.kind ≡ fastforward) (o : OpeningValue) (es : List Entry) (s : ProtocolState)
    (c : QueueCounts) (m : Party → ℕ) → Point r o es s c m → (e : Entry) → ((h : ℕ) → lands h es ≤ length (own_stores h es)) → Allowed B o es e
    → KeepsProtocolBy fastforward r (role_of r (hart_of e)) s (access_of e)
    → KeepsEntry (ring_slots_of r) c e
    × Point r o (es ++ e ∷ []) (next_by fastforward r (role_of r (hart_of e)) s (access_of e)) (after_entry (ring_slots_of r) c e)
    (steps.next (ring_slots_of r) es e m)
next-point B r is kind o es s c m t e even can keeps = (
  one.0,
  record {
    held = one-on B q (is_slots r is) o es e even m c one.0 can t.held;
    agrees = one.1;
    mine = steadies the_sender (publishes_to fastforward r) t.mine
        (let grown = counted fastforward r is kind s e keeps (placed-of r s.stored s.published c s.sending t.agrees.sending) in
        omega (arith, grown, t.agrees.published, one.1.published));
    theirs = steadies the_receiver (releases_to fastforward r) t.theirs
        (let place = asked-of r s.taken s.consumed c s.receiving t.agrees.receiving in
        let grown = counted-released fastforward r is kind s e keeps place.0 place.1 in omega (arith, grown, t.agrees.taken, one.1.taken));
  },
)
  where
    q : Slots
    q = ring_slots_of r

    one : KeepsEntry (ring_slots_of r) c e
        × Agrees r o (es ++ e ∷ []) (next_by fastforward r (role_of r (hart_of e)) s (access_of e)) (after_entry (ring_slots_of r) c e)
    one = keeps-one B r is kind o es s c t.agrees e even can keeps

    moves : (p : Party) (w : Write) → hart_of e ≡ teller_hart (ring_slots_of r) p → access_of e ≡ store w
        → count p (after_entry (ring_slots_of r) c e) ≡ moved (ring_slots_of r) (count p c) w
    moves p w at does = ap (λ x. count p (told_access q (teller_of q (hart_of e)) x c)) does
        ∙ ap (λ t. count p (told_access q t (store w) c)) (party-is r.sender r.receiver (hart_of e) is.parties p at)
        ∙ count-set p (moved q (count p c) w) c

    -- each pending store of a tag moves its count on by one
    steadies : (p : Party) (P : Write → Bool) → Steady (moved_on (ring_slots_of r)) P (m p) (pending (teller_hart (ring_slots_of r) p) es)
        → count p (after_entry (ring_slots_of r) c e) ≡ count p c + number_of P (own_store (teller_hart (ring_slots_of r) p) e)
        → Steady (moved_on (ring_slots_of r)) P (steps.next (ring_slots_of r) es e m p) (pending (teller_hart (ring_slots_of r) p) (es ++ e ∷ []))
    steadies p P steady grown = steady-next (moved_on (ring_slots_of r)) (λ n. refl) (λ n w ws. refl) P B o es e even can (m p)
        (steps.next (ring_slots_of r) es e m p) (teller_hart (ring_slots_of r) p) steady
        (λ mine. next-mine B (ring_slots_of r) (is_slots r is) o es e even m p mine (write_of es e) refl)
        (λ other. next-other B (ring_slots_of r) (is_slots r is) o es e even m p other)
        (λ w at does.
        (let stored : own_store (teller_hart (ring_slots_of r) p) e ≡ w ∷ [] = store-of (teller_hart (ring_slots_of r) p) e w at does in
        let all : moved_on (ring_slots_of r) (m p) (pending (teller_hart (ring_slots_of r) p) es) ≡ count p c = (t.held.side p).count_is in
        ap (λ n. moved (ring_slots_of r) n w) all ∙ sym (moves p w at does) ∙ grown ∙ ap (λ ws. count p c + number_of P ws) stored
        ∙ ap (λ n. n + number_of P (w ∷ [])) (sym all)))

-- ---- whole runs

pub record Reached (r : RingBuffer) (o : OpeningValue) (es : List Entry) (s : ProtocolState) : Type 0 where
  pub counts : QueueCounts
  pub memory : Party → ℕ
  pub point : Point r o es s counts memory

keeps-all : (B : ℕ) (r : RingBuffer) (is : IsRingBuffer r) (kind : r.kind ≡ fastforward) (o : OpeningValue) (before : List Entry)
    (c : QueueCounts) (m : Party → ℕ) (s : ProtocolState) (es : List Entry) → Point r o before s c m
    → Legal B (history_of o before) → LegalAfter B o before es → KeepsProtocol r s es
    → KeepsTelling (ring_slots_of r) c es × Reached r o (before ++ es) (protocol_after r s es)
keeps-all B r is kind o before c m s [] t legal later keeps =
    (tt, record { counts = c; memory = m; point = subst (λ xs. Point r o xs s c m) (sym (append-nil before)) t })
keeps-all B r is kind o before c m s (e ∷ es) t legal later keeps =
    let even : (h : ℕ) → lands h before ≤ length (own_stores h before) = λ h. balanced B (history_of o before) h legal in
    let one = next-point B r is kind o before s c m t e even later.0
    (subst (λ k. KeepsProtocolBy k r (role_of r (hart_of e)) s (access_of e)) kind keeps.0) in
    let rest = keeps-all B r is kind o (before ++ e ∷ []) (after_entry (ring_slots_of r) c e) (steps.next (ring_slots_of r) before e m)
    (protocol_next r s e) es
    (subst (λ k. Point r o (before ++ e ∷ []) (next_by k r (role_of r (hart_of e)) s (access_of e)) (after_entry (ring_slots_of r) c e)
    (steps.next (ring_slots_of r) before e m)) (sym kind) one.1)
    (LegalAfter-append B o [] before (e ∷ []) legal (later.0, tt)) later.1 keeps.1 in
    ((one.0, rest.0), subst (λ xs. Reached r o xs (protocol_after r (protocol_next r s e) es)) (append_assoc before (e ∷ []) es) rest.1)

module _ (B : ℕ) (r : RingBuffer) (o : OpeningValue) (before es : List Entry) (kind : r.kind ≡ fastforward) (f : FollowsSpscProtocol B r o before es) where
  abbrev ring : Slots
  ring = ring_slots_of r

  none_moved : (P : Write → Bool) → ((w : Write) → overlaps r w ≡ false → P w ≡ false) → (h n : ℕ) → Steady (moved_on (ring_slots_of r)) P n (pending h before)
  none_moved P off h n = steady-off (moved_on ring) (λ k. refl) (λ k w ws. refl) P r
      (λ k w no. (moved-leaves ring (is_slots r f.ring) k w (off-leaves ring (is_slots r f.ring) w (off-keeps r f.ring w no)), off w no)) n
      (pending h before) (all-off r (λ w. overlaps r w ≡ false) (λ w no. no) (pending h before) (f.rest.pending h))

  begins : Point r o before (at_start r o before) (counts_at_start r) (λ t. count t (counts_at_start r))
  begins = record {
    held = at-rest ring (is_slots r f.ring) o before (counts_at_start r) (rests r f.ring o before kind f.rest);
    agrees = record {
      published = refl;
      taken = omega arith;
      begun = omega arith;
      sending = refl;
      receiving = refl;
      head = subst (Own r.sender o before r.head) f.rest.head (own-rest r o before r.sender r.head f.ring.head.above f.ring.head.below f.rest.pending);
      tail = subst (Own r.receiver o before r.tail) f.rest.tail (own-rest r o before r.receiver r.tail f.ring.tail.above f.ring.tail.below f.rest.pending);
    };
    mine = none_moved (publishes_to fastforward r) (λ w no. ap (λ b. b && publishes fastforward r w) no) r.sender (r.start + r.begins_with);
    theirs = none_moved (releases_to fastforward r) (λ w no. ap (λ b. b && releases fastforward r w) no) r.receiver r.start;
  }

  pub both : KeepsTelling (ring_slots_of r) (counts_at_start r) es × Reached r o (before ++ es) (parties_after r o before es)
  both = keeps-all B r f.ring kind o before (counts_at_start r) (λ t. count t (counts_at_start r)) (at_start r o before) es begins
      (LegalAfter-front B o [] before es f.legal) (LegalAfter-back B o [] before es f.legal) f.keeps

  pub fastforward_tells : FollowsTelling B (ring_slots_of r) (counts_at_start r) o before es
  fastforward_tells = record { slots = is_slots r f.ring; legal = f.legal; rest = rests r f.ring o before kind f.rest; keeps = both.0 }

known-most : (r : RingBuffer) (n m l : ℕ) (c : QueueCounts) (p : ReceiverState) → n ≤ l → (c.taken < c.known_published → n + 1 ≤ l) → Receiving r n m c p
    → n + known_by_state p ≤ l
known-most r n m l c (waiting u) le more h = absurd h
known-most r n m l c (holding u w) le more h = more h.2
known-most r n m l c p le more h = omega (arith, le)

ready-most : (r : RingBuffer) (n m l : ℕ) (c : QueueCounts) (p : SenderState) → n ≤ l → (c.published < c.known_taken + r.size → n + 1 ≤ l) → Sending r n m c p
    → n + ready_by_state p + 0 ≤ l
ready-most r n m l c (roomy u) le more h = let one : n + 1 ≤ l = more h.2 in omega (arith, one)
ready-most r n m l c p le more h = omega (arith, le)

-- a party's stores to tags leave the slots of other positions
tidy-leaves : (q : Slots) (is : IsSlots q) (p : Party) (m : ℕ) (ws : List Write) (k x : ℕ) → Tidy q p m ws → IsTagByte q k x
    → ((i : ℕ) → m ≤ i → i < moved_on q m ws → i % q.size ≢ k % q.size) → All (LeavesByte x) ws
tidy-leaves q is p m [] k x tidy on apart = All-nil (LeavesByte x)
tidy-leaves q is p m (w ∷ ws) k x (inl leaves, tidy) on apart = All-cons (LeavesByte x) w ws (leaves k x on)
    (tidy-leaves q is p (moved q m w) ws k x tidy on
    (λ i from below. apart i (let same : moved q m w ≡ m = moved-leaves q is m w leaves in omega (arith, same, from)) below))
tidy-leaves q is p m (w ∷ ws) k x (inr tag, tidy) on apart =
    let more : moved q m w ≡ m + 1 = moved-tag q is p m m w tag in
    let last : moved q m w ≤ moved_on q (moved q m w) ws = moved_on-more q (moved q m w) ws in
    All-cons (LeavesByte x) w ws (tag-apart q is p m k w tag (apart m (omega arith) (omega (arith, more, last))) x on)
    (tidy-leaves q is p (moved q m w) ws k x tidy on (λ i from below. apart i (omega (arith, more, from)) below))

module _ (r : RingBuffer) (is : IsRingBuffer r) (kind : r.kind ≡ fastforward) (o : OpeningValue) (es : List Entry) (s : ProtocolState) (c : QueueCounts)
    (m : Party → ℕ) (t : Point r o es s c m) where
  abbrev q : Slots
  q = ring_slots_of r

  good : IsSlots (ring_slots_of r)
  good = is_slots r is

  mine : (m the_sender ≤ c.published) × (c.published ≤ m the_receiver + r.size)
  mine = within q o es c m t.held the_sender

  theirs : (m the_receiver ≤ c.taken) × (c.taken ≤ m the_sender + 0)
  theirs = within q o es c m t.held the_receiver

  heard : (c.known_published ≤ m the_sender) × (c.known_taken ≤ m the_receiver)
  heard = ((t.held.side the_sender).known_less, (t.held.side the_receiver).known_less)

  place : IsAsked r s.consumed s.receiving × Taking fastforward s.taken s.consumed s.receiving
  place = asked-of r s.taken s.consumed c s.receiving t.agrees.receiving

  words : s.stored ≡ (m the_sender - r.start) + number_of (publishes_to fastforward r) (pending r.sender es)
  words = let all = steady-count (moved_on q) (λ n. refl) (λ n w ws. refl) (publishes_to fastforward r) (m the_sender) (pending r.sender es) t.mine in
      omega (arith, all, (t.held.side the_sender).count_is, t.agrees.published, t.agrees.taken, theirs.1)

  slots : s.taken ≡ (m the_receiver - r.start) + number_of (releases_to fastforward r) (pending r.receiver es)
  slots = let all = steady-count (moved_on q) (λ n. refl) (λ n w ws. refl) (releases_to fastforward r) (m the_receiver) (pending r.receiver es) t.theirs in
      omega (arith, all, (t.held.side the_receiver).count_is, t.agrees.taken, t.agrees.begun, heard.1)

  -- a look at the own position's tag
  asks : (u v : ℕ) → s.receiving ≡ asked u → v ≡ read o es r.receiver (r.slots + u) 4 → v ≡ read o es r.receiver (tag_of (ring_slots_of r) c.taken) 4
  asks u v was found =
      let at : (s.taken ≡ s.consumed) × (u ≡ slot_offset r s.consumed) = subst (Receiving r s.taken s.consumed c) was t.agrees.receiving in
      found ∙ ap (λ a. read o es r.receiver a 4) (taken_place r is kind o es s c t.agrees u (at.1 ∙ ap (slot_offset r) (sym at.0)))

  pub fastforward-at : At fastforward r o es s
  fastforward-at = record {
    there = m the_sender - r.start;
    freed = m the_receiver - r.start;
    placed_at = placed-of r s.stored s.published c s.sending t.agrees.sending;
    asked_at = place.0;
    taking = place.1;
    known_there = known-most r s.taken s.consumed (m the_sender - r.start) c s.receiving (omega (arith, theirs.1, t.agrees.taken))
        (λ more. omega (arith, more, heard.0, t.agrees.taken)) t.agrees.receiving;
    ready_freed = ready-most r s.stored s.published ((m the_receiver - r.start) + r.size) c s.sending
        (omega (arith, mine.1, t.agrees.published, t.agrees.begun, heard.1)) (λ more. omega (arith, more, heard.1, t.agrees.published, t.agrees.begun))
        t.agrees.sending;
    words_held = words;
    slots_held = slots;
    empty = λ u v was found says.
        let upto : m the_sender + 0 ≤ c.taken = false_tag q good o es c m t.held the_receiver c.taken (omega arith) (omega (arith, is.some_slots))
        (ap not (ap (λ x. x == 0) (sym (asks u v was found)) ∙ says)) in
        omega (arith, upto, t.agrees.taken);
    found = λ same u v was found says.
        let more : c.taken < m the_sender + 0 = true_tag q good o es c m t.held the_receiver c.taken (omega arith) (omega (arith, is.some_slots))
        (ap not (ap (λ x. x == 0) (sym (asks u v was found)) ∙ says)) in
        omega (arith, more, t.agrees.taken);
    full = λ u v was found says.
        let at : (s.stored ≡ s.published) × (u ≡ slot_offset r s.published) = subst (Sending r s.stored s.published c) was t.agrees.sending in
        let word : v ≡ read o es r.sender (tag_of (ring_slots_of r) c.published) 4 =
        found ∙ ap (λ a. read o es r.sender a 4) (sent_place r is kind o es s c t.agrees u (at.1 ∙ ap (slot_offset r) (sym at.0))) in
        let upto : m the_receiver + r.size ≤ c.published = false_tag q good o es c m t.held the_sender c.published (omega arith) (omega (arith, is.some_slots))
        (ap (λ x. x == 0) (sym word) ∙ turned (v == 0) says) in
        omega (arith, upto, t.agrees.published, t.agrees.begun, heard.1);
    alone = λ same u was x from below.
        let at : (s.stored ≡ s.published) × (u ≡ slot_offset r s.published) × (c.published < c.known_taken + r.size) =
        subst (Sending r s.stored s.published c) was t.agrees.sending in
        only at.2 x (
          omega (arith, from, ap (λ n. r.slots + 4 * (n % r.size)) t.agrees.published),
          omega (arith, below, ap (λ n. r.slots + 4 * (n % r.size)) t.agrees.published),
        );
    head = t.agrees.head.reads;
    tail = t.agrees.tail.reads;
    copied = no_copy r is kind o es s c t.agrees r.copy refl;
    free = λ same none j from below.
        let no_words : number_of (publishes_to fastforward r) (pending r.sender es) ≡ 0 =
        sym (filters (publishes fastforward r) (overlaps r) (pending r.sender es)) ∙ ap (λ ws. length (filter (publishes fastforward r) ws)) (none r.sender) in
        let no_slots : number_of (releases_to fastforward r) (pending r.receiver es) ≡ 0 =
        sym (filters (releases fastforward r) (overlaps r) (pending r.receiver es))
        ∙ ap (λ ws. length (filter (releases fastforward r) ws)) (none r.receiver) in
        let tag : ((memory_tag q o es (r.start + j)) == 0) ≡ true = t.held.tags the_sender (r.start + j)
        (omega (arith, words, no_words, from, theirs.1, t.agrees.taken)) (omega (arith, slots, no_slots, below, t.agrees.begun, heard.1)) in
        let back : j ≡ (r.start + j) - r.start = omega arith in
        ap (λ i. memory_word o es (slot_address r i)) back ∙ tag_word r o es (r.start + j) (omega arith) ∙ eqb-true (memory_tag q o es (r.start + j)) 0 tag;
    room = λ same. absurd (cc);
  }
    where
      turned : (b : Bool) → not b ≡ true → b ≡ false
      turned false is = refl
      turned true is = absurd (cc)

      -- no other hart has a pending store over the slot that the sender is about to fill
      only : c.published < c.known_taken + r.size → (x : ℕ) → IsTagByte q c.published x → (g : ℕ) → g ≢ r.sender → All (LeavesByte x) (pending g es)
      only more x on g other = elim (cases_eq g r.receiver) [
        | inl same ↦ subst (λ h. All (LeavesByte x) (pending h es)) (sym same)
            (tidy-leaves q good the_receiver (m the_receiver) (pending r.receiver es) c.published x (t.held.side the_receiver).own on (λ i from below.
            (let all : moved_on q (m the_receiver) (pending r.receiver es) ≡ c.taken = (t.held.side the_receiver).count_is in
            mod_apart r.size i c.published (omega (arith, is.some_slots)) (omega (arith, below, all, theirs.1, mine.0)) (omega (arith, from, more, heard.1)))))
        | inr far ↦ third (t.held.third g (apart far))
      ]
        where
          apart : g ≢ r.receiver → (p : Party) → g ≢ teller_hart q p
          apart far the_sender = other
          apart far the_receiver = far

          third : All (LeavesTags q) (pending g es) → All (LeavesByte x) (pending g es)
          third all k d less = all k d less c.published x on

pub fastforward_at : (B : ℕ) (r : RingBuffer) (o : OpeningValue) (before es : List Entry) → r.kind ≡ fastforward → FollowsSpscProtocol B r o before es
    → At fastforward r o (before ++ es) (parties_after r o before es)
fastforward_at B r o before es kind f = let t = (both B r o before es kind f).1 in
    fastforward-at r f.ring kind o (before ++ es) (parties_after r o before es) t.counts t.memory t.point
