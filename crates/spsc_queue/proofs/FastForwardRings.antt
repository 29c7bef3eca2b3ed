-- Each entry that keeps FastForward's protocol keeps that of slots that tell.
use Rattle.std.specs.Prelude.{not}
use Rattle.std.proofs.Math.Nat.{mod-eq_of_lt}
use Rattle.spsc_queue.proofs.Common.{ℕ, ◌+◌, ◌-◌, ◌*◌, ◌%◌, ◌^◌, ◌<◌, ◌≤◌, ◌≡◌, ◌==◌, ◌⊎◌, inl, inr, true, false, if◌then◌else◌, List, [], ◌∷◌, ◌++◌, length}
use Rattle.spsc_queue.proofs.Common.{Option, Some, None, refl, sym, ◌∙◌, ap, subst, arith, cases_lt, eq-eqb, ne_eqb, nat_tests, Write, write, covers-from}
use Rattle.spsc_queue.proofs.Common.{Entry, OpeningValue, Access, load, store, exchange, access_of, hart_of, own_stores, lands, pending, memory_word, read}
use Rattle.spsc_queue.proofs.Common.{AllowedBy, Allowed, lamport, fastforward, RingBuffer, IsRingBuffer, slot_offset, slot_address, overlaps, capacity_of}
use Rattle.spsc_queue.proofs.Common.{IsQuiescent, SenderState, resting, placed, renewing, roomy, filled, ReceiverState, idle, asked, waiting, holding, cleared}
use Rattle.spsc_queue.proofs.Common.{ProtocolState, role_of, looks_at, send_look, send_load, send_store, receive_look, receive_load, receive_store, next_by}
use Rattle.spsc_queue.proofs.Common.{WritesNothingTo, IsSenderStore, IsReceiverStore, KeepsProtocolBy, IsWordAt, counts_at_start, other, QueueCounts, count}
use Rattle.spsc_queue.specs.Instances.{ring_slots_of}
use Rattle.spsc_queue.proofs.Cases.{IsWhole, by-test, by-access, by-send-load, by-receive-load}
use Rattle.spsc_queue.proofs.Offsets.{offset_low, slot_off, next_offset}
use Rattle.spsc_queue.proofs.OwnWords.{Own, LeavesWord, off_leaves_by, past, own-kept, own-stored, all-off}
use Rattle.spsc_queue.proofs.States.{IsPlaced, IsAsked, Taking, level-counts}
use Rattle.queue_parties.specs.Parties.{Party, the_sender, the_receiver, known, with_known}
use Rattle.queue_parties.specs.Positions.{IsInBytes}
use Rattle.queue_parties.proofs.Parties.{known-set, Grows}
use Rattle.queue_parties.proofs.Positions.{ahead-is}
use Rattle.slots_that_tell.specs.Slots.{Slots, IsSlots, RestsAt, KeepsOff, gap, tag_of, element_at, position_at, memory_tag}
use Rattle.slots_that_tell.specs.Telling.{teller_of, owned_end, learned, moved, after_load, after_store, told_access, MayStore, IsTagStore, TellsAccess}
use Rattle.slots_that_tell.proofs.Codecs.{zero_differs}
use Rattle.slots_that_tell.proofs.Places.{element_at-tag, is_tag-tag, moved-tag, moved-leaves, off-leaves}
use Rattle.slots_that_tell.proofs.Owned.{loaded-count, grows-load}

pub is_slots : (r : RingBuffer) → IsRingBuffer r → IsSlots (ring_slots_of r)
is_slots r is = record {
  parties = is.parties;
  some = is.some_slots;
  some_bytes = omega arith;
  tag_within = omega arith;
  tags_lie = inl (refl, refl);
  differ = zero_differs (ring_slots_of r);
}

-- the elements with the tags are the slots
in-slots : (r : RingBuffer) (x : ℕ) → IsInBytes r.slots (r.size * 4) x ⊎ IsInBytes r.slots (r.size * 4) x → IsInBytes r.slots (r.size * 4) x
in-slots r x (inl at) = at
in-slots r x (inr at) = at

pub off-keeps : (r : RingBuffer) (is : IsRingBuffer r) (w : Write) → overlaps r w ≡ false → KeepsOff (ring_slots_of r) w
off-keeps r is w off x on inside = let part = covers-from w x on in let within = in-slots r x inside in
    grind (arith, nat_tests, off, part.0, part.1, within.0, within.1, is.slots_above, is.slots_below)

-- the tag of position k, whose slot is the one at k - r.start from the first on
pub tag_word : (r : RingBuffer) (o : OpeningValue) (before : List Entry) (k : ℕ) → r.start ≤ k
    → memory_word o before (slot_address r (k - r.start)) ≡ memory_tag (ring_slots_of r) o before k
tag_word r o before k from = grind (arith, memory_word)

pub rests : (r : RingBuffer) (is : IsRingBuffer r) (o : OpeningValue) (before : List Entry) → r.kind ≡ fastforward → IsQuiescent r o before
    → RestsAt (ring_slots_of r) o before (counts_at_start r)
rests r is o before kind quiet = record {
  window = record {
    known_published = omega arith;
    published = omega (arith, fits);
    known_taken = omega arith;
    taken = omega arith;
  };
  full = λ k from below.
      let word = quiet.words kind (k - r.start) (omega (arith, from, below)) in
      ap (λ b. not b) (ne_eqb (memory_tag (ring_slots_of r) o before k) 0 (λ zero. word (tag_word r o before k from ∙ zero)));
  free = λ k from below.
      eq-eqb (memory_tag (ring_slots_of r) o before k) 0 (sym (tag_word r o before k (omega (arith, from)))
      ∙ quiet.free kind (k - r.start) (omega (arith, from)) (omega (arith, from, below)));
  pending = λ h. all-off r (KeepsOff (ring_slots_of r)) (off-keeps r is) (pending h before) (quiet.pending h);
}
  where
    fits : r.begins_with ≤ r.size
    fits = subst (λ k. r.begins_with ≤ capacity_of k r.size) kind quiet.fits

-- what the phases say of the counts
abbrev pub Sending : RingBuffer → (stored published : ℕ) → QueueCounts → SenderState → Type 0
Sending r n m c resting = n ≡ m
Sending r n m c (placed u) = (n ≡ m) × (u ≡ slot_offset r m)
Sending r n m c (renewing u v) = ⊥
Sending r n m c (roomy u) = (n ≡ m) × (u ≡ slot_offset r m) × (c.published < c.known_taken + r.size)
Sending r n m c (filled u) = (n ≡ m + 1) × (u ≡ slot_offset r m)

abbrev pub Receiving : RingBuffer → (taken consumed : ℕ) → QueueCounts → ReceiverState → Type 0
Receiving r n m c idle = n ≡ m
Receiving r n m c (asked u) = (n ≡ m) × (u ≡ slot_offset r m)
Receiving r n m c (waiting u) = ⊥
Receiving r n m c (holding u w) = (n ≡ m) × (u ≡ slot_offset r m) × (c.taken < c.known_published)
Receiving r n m c (cleared u) = (n ≡ m + 1) × (u ≡ slot_offset r m)

pub placed-of : (r : RingBuffer) (n m : ℕ) (c : QueueCounts) (p : SenderState) → Sending r n m c p → IsPlaced r n m p
placed-of r n m c (renewing u v) h = absurd h
placed-of r n m c (roomy u) h = (h.0, h.1)
placed-of r n m c p h = h

pub asked-of : (r : RingBuffer) (n m : ℕ) (c : QueueCounts) (p : ReceiverState) → Receiving r n m c p → IsAsked r m p × Taking fastforward n m p
asked-of r n m c idle h = (tt, h)
asked-of r n m c (waiting u) h = absurd h
asked-of r n m c other h = (h.1, h.0)

-- as many are published and taken as the state says, and each party reads its place in its index
pub record Agrees (r : RingBuffer) (o : OpeningValue) (es : List Entry) (s : ProtocolState) (c : QueueCounts) : Type 0 where
  pub published : c.published ≡ r.start + s.stored
  pub taken : c.taken ≡ r.start + s.taken
  pub begun : r.start ≤ c.known_taken
  pub sending : Sending r s.stored s.published c s.sending
  pub receiving : Receiving r s.taken s.consumed c s.receiving
  pub head : Own r.sender o es r.head (slot_offset r s.published)
  pub tail : Own r.receiver o es r.tail (slot_offset r s.consumed)

more-sending : (r : RingBuffer) (n m : ℕ) (c d : QueueCounts) (p : SenderState) → c.published ≡ d.published
    → c.known_taken ≤ d.known_taken → Sending r n m c p → Sending r n m d p
more-sending r n m c d (roomy u) same more h = (h.0, h.1, omega (arith, same, more, h.2))
more-sending r n m c d p same more h = h

more-receiving : (r : RingBuffer) (n m : ℕ) (c d : QueueCounts) (p : ReceiverState) → c.taken ≡ d.taken
    → c.known_published ≤ d.known_published → Receiving r n m c p → Receiving r n m d p
more-receiving r n m c d (holding u w) same more h = (h.0, h.1, omega (arith, same, more, h.2))
more-receiving r n m c d p same more h = h

-- a load of the own position's tag that tells
module _ (r : RingBuffer) (is : IsRingBuffer r) (p : Party) (c : QueueCounts) (v : ℕ) where
  told-own : (ring_slots_of r).tells p (count p c) v ≡ true
      → count p c < owned_end (ring_slots_of r) p (after_load (ring_slots_of r) p (tag_of (ring_slots_of r) (count p c)) 4 v c)
  told-own tells =
      let slot : element_at (ring_slots_of r) (tag_of (ring_slots_of r) (count p c)) ≡ count p c % r.size =
      element_at-tag (ring_slots_of r) (is_slots r is) (count p c) in
      let here : position_at (ring_slots_of r) (count p c) (tag_of (ring_slots_of r) (count p c)) ≡ count p c =
      ap (λ i. count p c + (i + (r.size - count p c % r.size)) % r.size) slot
      ∙ (let z : count p c ≡ count p c + 0 = omega arith in ap (λ i. count p c + (i % r.size + (r.size - count p c % r.size)) % r.size) z)
      ∙ ap (λ i. count p c + i) (ahead-is r.size (count p c) 0 (omega (arith, is.some_slots))) ∙ (let z : count p c + 0 ≡ count p c = omega arith in z) in
      let new : after_load (ring_slots_of r) p (tag_of (ring_slots_of r) (count p c)) 4 v c ≡ learned (ring_slots_of r) p (count p c) v c =
      ap (λ b.
      if b then learned (ring_slots_of r) p (position_at (ring_slots_of r) (count p c) (tag_of (ring_slots_of r) (count p c))) v c
      else c) (is_tag-tag (ring_slots_of r) (is_slots r is) (count p c))
      ∙ ap (λ j. learned (ring_slots_of r) p j v c) here in
      let set : learned (ring_slots_of r) p (count p c) v c ≡ with_known p (known p c + (count p c + 1 - gap (ring_slots_of r) (other p) - known p c)) c =
      ap (λ b. if b then with_known p (known p c + (count p c + 1 - gap (ring_slots_of r) (other p) - known p c)) c else c) tells in
      let knows : known p (after_load (ring_slots_of r) p (tag_of (ring_slots_of r) (count p c)) 4 v c)
      ≡ known p c + (count p c + 1 - gap (ring_slots_of r) (other p) - known p c) =
      ap (known p) (new ∙ set) ∙ known-set p (known p c + (count p c + 1 - gap (ring_slots_of r) (other p) - known p c)) c in
      omega (arith, knows)

-- ---- one entry

module _ (r : RingBuffer) (is : IsRingBuffer r) (kind : r.kind ≡ fastforward) (o : OpeningValue) (es : List Entry) (s : ProtocolState) (c : QueueCounts)
    (agrees : Agrees r o es s c) where
  abbrev q : Slots
  q = ring_slots_of r

  good : IsSlots (ring_slots_of r)
  good = is_slots r is

  -- counts that stay, and knowledge that grows
  kept : (d : QueueCounts) → d.published ≡ c.published → d.taken ≡ c.taken → c.known_taken ≤ d.known_taken
      → c.known_published ≤ d.known_published → Agrees r o es s d
  kept d one two three four = record {
    published = one ∙ agrees.published;
    taken = two ∙ agrees.taken;
    begun = omega (arith, agrees.begun, three);
    sending = more-sending r s.stored s.published c d s.sending (sym one) three agrees.sending;
    receiving = more-receiving r s.taken s.consumed c d s.receiving (sym two) four agrees.receiving;
    head = agrees.head;
    tail = agrees.tail;
  }

  kept-load : (p : Party) (a width v : ℕ) → Agrees r o es s (after_load q p a width v c)
  kept-load p a width v =
      let g : Grows c (after_load q p a width v c) = grows-load q p a width v c in
      kept (after_load q p a width v c) (loaded-count q p the_sender a width v c)
      (loaded-count q p the_receiver a width v c) (g.knows the_sender) (g.knows the_receiver)

  kept-store : (p : Party) (w : Write) → KeepsOff (ring_slots_of r) w → Agrees r o es s (after_store q p w c)
  kept-store the_sender w keeps = kept (after_store q the_sender w c)
      (moved-leaves q good c.published w (off-leaves q good w keeps)) refl (omega arith) (omega arith)
  kept-store the_receiver w keeps = kept (after_store q the_receiver w c) refl
      (moved-leaves q good c.taken w (off-leaves q good w keeps)) (omega arith) (omega arith)

  pub no_copy : (t : Option ℕ) → r.copy ≡ t → t ≡ None
  no_copy None same = refl
  no_copy (Some a) same = absurd (let wrong : lamport ≡ fastforward = sym (is.copy a same).kind ∙ kind in cc)

  pub sent_place : (u : ℕ) → u ≡ slot_offset r s.stored → r.slots + u ≡ tag_of (ring_slots_of r) c.published
  sent_place u at = (let z : r.slots + u ≡ r.slots + u + 0 = omega arith in z)
      ∙ ap (λ i. r.slots + i + 0) (at ∙ ap (λ n. 4 * (n % r.size)) (sym agrees.published))

  pub taken_place : (u : ℕ) → u ≡ slot_offset r s.taken → r.slots + u ≡ tag_of (ring_slots_of r) c.taken
  taken_place u at = (let z : r.slots + u ≡ r.slots + u + 0 = omega arith in z) ∙ ap (λ i. r.slots + i + 0) (at ∙ ap (λ n. 4 * (n % r.size)) (sym agrees.taken))

  -- a load of the own slot that tells: after it the party owns a position
  told-there : (p : Party) (a v : ℕ) → a ≡ tag_of (ring_slots_of r) (count p c) → (ring_slots_of r).tells p (count p c) v ≡ true
      → count p (after_load q p a 4 v c) < owned_end (ring_slots_of r) p (after_load q p a 4 v c)
  told-there p a v here tells =
      let own : count p c < owned_end (ring_slots_of r) p (after_load (ring_slots_of r) p a 4 v c) =
      subst (λ y. count p c < owned_end (ring_slots_of r) p (after_load (ring_slots_of r) p y 4 v c)) (sym here) (told-own r is p c v tells) in
      let n : count p (after_load q p a 4 v c) ≡ count p c = loaded-count q p p a 4 v c in
      omega (arith, n, own)

  -- a look at the own slot that tells
  sends-look : (a v : ℕ) (p : SenderState) → Sending r s.stored s.published (after_load q the_sender a 4 v c) p
      → Sending r s.stored s.published (after_load q the_sender a 4 v c) (send_look fastforward r a v p)
  sends-look a v (placed u) h =
      let d : QueueCounts = after_load q the_sender a 4 v c in
      subst (λ t. Sending r s.stored s.published d (looks_at t fastforward r a u v)) (sym (no_copy r.copy refl))
      (by-test (λ b. Sending r s.stored s.published d (if b then (if not (v == 0) then placed u else roomy u) else placed u)) a (r.slots + u)
      (λ on. by-test (λ b. Sending r s.stored s.published d (if not b then placed u else roomy u)) v 0
      (λ free. (h.0, h.1, told-there the_sender a v (on ∙ sent_place u (h.1 ∙ ap (slot_offset r) (sym h.0))) (eq-eqb v 0 free))) (λ full. h)) (λ off. h))
  sends-look a v (renewing u w) h = absurd h
  sends-look a v other h = h

  takes-look : (a v : ℕ) (p : ReceiverState) → Receiving r s.taken s.consumed (after_load q the_receiver a 4 v c) p
      → Receiving r s.taken s.consumed (after_load q the_receiver a 4 v c) (receive_look fastforward r a v p)
  takes-look a v (asked u) h =
      let d : QueueCounts = after_load q the_receiver a 4 v c in
      by-test (λ b. Receiving r s.taken s.consumed d (if b then (if v == 0 then asked u else holding u v) else asked u)) a (r.slots + u)
      (λ on. by-test (λ b. Receiving r s.taken s.consumed d (if b then asked u else holding u v)) v 0 (λ free. h) (λ full.
      (let owns : d.taken < owned_end (ring_slots_of r) the_receiver d =
      told-there the_receiver a v (on ∙ taken_place u (h.1 ∙ ap (slot_offset r) (sym h.0))) (ap not (ne_eqb v 0 full)) in (h.0, h.1, omega (arith, owns)))))
      (λ off. h)
  takes-look a v (waiting u) h = absurd h
  takes-look a v other h = h

  sender-load : (a v : ℕ) → v ≡ read o es r.sender a 4
      → Agrees r o es (record s { sending = send_load fastforward r a v s.sending }) (after_load q the_sender a 4 v c)
  sender-load a v is_read = let old = kept-load the_sender a 4 v in record {
    published = old.published;
    taken = old.taken;
    begun = old.begun;
    sending = by-send-load fastforward r a v (Sending r s.stored s.published (after_load q the_sender a 4 v c)) s.sending (λ level here. (
      level-counts r s.stored s.published s.sending level (placed-of r s.stored s.published c s.sending agrees.sending),
      is_read ∙ ap (λ x. read o es r.sender x 4) here ∙ agrees.head.reads,
    )) (sends-look a v s.sending old.sending);
    receiving = old.receiving;
    head = agrees.head;
    tail = agrees.tail;
  }

  receiver-load : (a v : ℕ) → v ≡ read o es r.receiver a 4
      → Agrees r o es (record s { receiving = receive_load fastforward r a v s.receiving }) (after_load q the_receiver a 4 v c)
  receiver-load a v is_read = let old = kept-load the_receiver a 4 v in record {
    published = old.published;
    taken = old.taken;
    begun = old.begun;
    sending = old.sending;
    receiving = by-receive-load fastforward r a v (Receiving r s.taken s.consumed (after_load q the_receiver a 4 v c)) s.receiving
        (λ whole here. (level s.receiving whole agrees.receiving, is_read ∙ ap (λ x. read o es r.receiver x 4) here ∙ agrees.tail.reads))
        (takes-look a v s.receiving old.receiving);
    head = agrees.head;
    tail = agrees.tail;
  }
    where
      level : (p : ReceiverState) → IsWhole p → Receiving r s.taken s.consumed c p → s.taken ≡ s.consumed
      level (waiting u) whole h = absurd h
      level idle whole h = h
      level (cleared u) whole h = absurd whole
      level (asked u) whole h = h.0
      level (holding u w) whole h = h.0

  word-off : (w : Write) (a : ℕ) → IsWordAt w a → (a + 4 ≤ r.slots) ⊎ (r.slots + 4 * r.size ≤ a) → KeepsOff (ring_slots_of r) w
  word-off w a word apart x on inside = let part = covers-from w x on in let within = in-slots r x inside in
      elim apart [
        | inl l ↦ omega (arith, l, part.0, part.1, word.place, word.width, within.0, within.1)
        | inr l ↦ omega (arith, l, part.0, part.1, word.place, word.width, within.0, within.1)
      ]

  -- ---- after it

  module _ (B : ℕ) (e : Entry) (even : (h : ℕ) → lands h es ≤ length (own_stores h es)) (can : Allowed B o es e) where
    abbrev after : List Entry
    after = es ++ e ∷ []

    -- an entry that leaves both indices
    onward : (x : Access) → access_of e ≡ x → LeavesWord r.head x → LeavesWord r.tail x → (z : ProtocolState) (d : QueueCounts) → Agrees r o es z d
        → Agrees r o after z d
    onward x does one two z d old = record {
      published = old.published;
      taken = old.taken;
      begun = old.begun;
      sending = old.sending;
      receiving = old.receiving;
      head = own-kept B o es e even can r.sender x does r.head (slot_offset r z.published) one old.head;
      tail = own-kept B o es e even can r.receiver x does r.tail (slot_offset r z.consumed) two old.tail;
    }

    off-onward : (x : Access) → access_of e ≡ x → WritesNothingTo r x → (z : ProtocolState) (d : QueueCounts) → Agrees r o es z d → Agrees r o after z d
    off-onward x does off = onward x does (λ y from below. off_leaves_by r x y off (omega (arith, from, is.head.above)) (omega (arith, below, is.head.below)))
        (λ y from below. off_leaves_by r x y off (omega (arith, from, is.tail.above)) (omega (arith, below, is.tail.below)))

    -- a store into a slot
    slot-onward : (w : Write) (j : ℕ) → access_of e ≡ store w → w.addr ≡ slot_address r j → w.width ≡ 4 → (z : ProtocolState) (d : QueueCounts)
        → Agrees r o es z d → Agrees r o after z d
    slot-onward w j does place width = onward (store w) does (leaves r.head is.head_apart) (leaves r.tail is.tail_apart)
      where
        leaves : (a : ℕ) → (a + 4 ≤ r.slots) ⊎ (r.slots + 4 * r.size ≤ a) → LeavesWord a (store w)
        leaves a apart = past w (slot_address r j) a (record { place = place; width = width }) (elim (slot_off r is a j apart) [
          | inl l ↦ inr l
          | inr l ↦ inl l
        ])

    apart-indices : (r.head + 4 ≤ r.tail) ⊎ (r.tail + 4 ≤ r.head)
    apart-indices = grind (arith, cases_lt)

    sender-made : (w : Write) (p : SenderState) → access_of e ≡ store w → hart_of e ≡ r.sender → Sending r s.stored s.published c p
        → IsSenderStore fastforward r p w
        → MayStore (ring_slots_of r) the_sender c w × Agrees r o after (send_store w p s) (after_store q the_sender w c)
    sender-made w (renewing u v) does mine h made = absurd h
    sender-made w (filled u) does mine h made =
        let off : KeepsOff (ring_slots_of r) w = word-off w r.head made.0 is.head_apart in
        let old : Agrees r o es s (after_store q the_sender w c) = kept-store the_sender w off in
        let value : w.value ≡ slot_offset r (s.published + 1) = made.1 ∙ next_offset r is u s.published h.1 in (
          inr (λ x on. inl (off x on)),
          record {
            published = old.published;
            taken = old.taken;
            begun = old.begun;
            sending = h.0;
            receiving = old.receiving;
            head = subst (Own r.sender o after r.head) value (own-stored es e even o w does r.sender r.head mine made.0
                (omega (arith, value, offset_low r is (s.published + 1), is.small)) agrees.head.alone);
            tail = own-kept B o es e even can r.receiver (store w) does r.tail (slot_offset r s.consumed)
                (past w r.head r.tail made.0 apart-indices) agrees.tail;
          },
        )
    sender-made w (roomy u) does mine h made =
        let spot : w.addr ≡ slot_address r s.published = made.0.place ∙ ap (λ x. r.slots + x) h.1 in
        let place : w.addr ≡ tag_of (ring_slots_of r) c.published = made.0.place ∙ sent_place u (h.1 ∙ ap (slot_offset r) (sym h.0)) in
        let tells : not (w.value % 256 ^ 4 == 0) ≡ true = ap (λ v. not (v == 0)) (mod-eq_of_lt (small made.1)) ∙ ap not (ne_eqb w.value 0 made.2) in
        let tag : IsTagStore (ring_slots_of r) the_sender c.published w = record { place = place; width = made.0.width; word = tells } in
        let more : moved (ring_slots_of r) c.published w ≡ c.published + 1 = moved-tag (ring_slots_of r) good the_sender c.published c.published w tag in (
          inl (record { tag = tag; owned = h.2 }),
          slot-onward w s.published does spot made.0.width (send_store w (roomy u) s) (after_store q the_sender w c) (record {
            published = more ∙ (let n : c.published ≡ r.start + s.stored = agrees.published in omega (arith, n));
            taken = agrees.taken;
            begun = agrees.begun;
            sending = (omega (arith, h.0), h.1);
            receiving = more-receiving r s.taken s.consumed c (after_store q the_sender w c) s.receiving refl (omega arith) agrees.receiving;
            head = agrees.head;
            tail = agrees.tail;
          }),
        )
      where
        small : w.value < 2 ^ 32 → w.value < 256 ^ 4
        small lt = omega (arith, lt)
    sender-made w p does mine h made = absurd made

    receiver-made : (w : Write) (p : ReceiverState) → access_of e ≡ store w → hart_of e ≡ r.receiver → Receiving r s.taken s.consumed c p
        → IsReceiverStore fastforward r p w
        → MayStore (ring_slots_of r) the_receiver c w × Agrees r o after (receive_store fastforward p s) (after_store q the_receiver w c)
    receiver-made w (cleared u) does mine h made =
        let off : KeepsOff (ring_slots_of r) w = word-off w r.tail made.0 is.tail_apart in
        let old : Agrees r o es s (after_store q the_receiver w c) = kept-store the_receiver w off in
        let value : w.value ≡ slot_offset r (s.consumed + 1) = made.1 ∙ next_offset r is u s.consumed h.1 in (
          inr (λ x on. inl (off x on)),
          record {
            published = old.published;
            taken = old.taken;
            begun = old.begun;
            sending = old.sending;
            receiving = h.0;
            head = own-kept B o es e even can r.sender (store w) does r.head (slot_offset r s.published) (past w r.tail r.head made.0 (elim apart-indices [
              | inl l ↦ inr l
              | inr l ↦ inl l
            ])) agrees.head;
            tail = subst (Own r.receiver o after r.tail) value (own-stored es e even o w does r.receiver r.tail mine made.0
                (omega (arith, value, offset_low r is (s.consumed + 1), is.small)) agrees.tail.alone);
          },
        )
    receiver-made w (holding u v) does mine h made =
        let spot : w.addr ≡ slot_address r s.consumed = made.0.place ∙ ap (λ x. r.slots + x) h.1 in
        let place : w.addr ≡ tag_of (ring_slots_of r) c.taken = made.0.place ∙ taken_place u (h.1 ∙ ap (slot_offset r) (sym h.0)) in
        let tells : (w.value % 256 ^ 4 == 0) ≡ true = ap (λ v. v % 256 ^ 4 == 0) made.1 in
        let tag : IsTagStore (ring_slots_of r) the_receiver c.taken w = record { place = place; width = made.0.width; word = tells } in
        let more : moved (ring_slots_of r) c.taken w ≡ c.taken + 1 = moved-tag (ring_slots_of r) good the_receiver c.taken c.taken w tag in (
          inl (record { tag = tag; owned = omega (arith, h.2) }),
          slot-onward w s.consumed does spot made.0.width (receive_store fastforward (holding u v) s) (after_store q the_receiver w c) (record {
            published = agrees.published;
            taken = more ∙ (let n : c.taken ≡ r.start + s.taken = agrees.taken in omega (arith, n));
            begun = agrees.begun;
            sending = more-sending r s.stored s.published c (after_store q the_receiver w c) s.sending refl (omega arith) agrees.sending;
            receiving = (ap (λ n. n + 1) h.0, h.1);
            head = agrees.head;
            tail = agrees.tail;
          }),
        )
    receiver-made w p does mine h made = absurd made

module _ (B : ℕ) (r : RingBuffer) (is : IsRingBuffer r) (kind : r.kind ≡ fastforward) (o : OpeningValue) (es : List Entry) (s : ProtocolState)
    (c : QueueCounts) (agrees : Agrees r o es s c) (e : Entry) (even : (h : ℕ) → lands h es ≤ length (own_stores h es)) (can : Allowed B o es e) where
  abbrev Kept : Option Party → Access → ProtocolState → Type 0
  Kept t x z = TellsAccess (ring_slots_of r) t c x × Agrees r o (es ++ e ∷ []) z (told_access (ring_slots_of r) t x c)

  on : (x : Access) → access_of e ≡ x → WritesNothingTo r x → (z : ProtocolState) (d : QueueCounts) → Agrees r o es z d → Agrees r o (es ++ e ∷ []) z d
  on = off-onward r is kind o es s c agrees B e even can

  -- an access that writes nothing to the block
  quiet : (t : Option Party) (x : Access) → access_of e ≡ x → WritesNothingTo r x → Kept t x s
  quiet (Some p) (load a width v) does off =
      (tt, on (load a width v) does off s (after_load (ring_slots_of r) p a width v c) (kept-load r is kind o es s c agrees p a width v))
  quiet (Some p) (store w) does off = (
    inr (λ x at. inl (off-keeps r is w off x at)),
    on (store w) does off s (after_store (ring_slots_of r) p w c) (kept-store r is kind o es s c agrees p w (off-keeps r is w off)),
  )
  quiet (Some p) (exchange a old new) does off =
      let looks : QueueCounts = after_load (ring_slots_of r) p a 4 old c in (
        inr (λ x at. inl (off-keeps r is (write a 4 new) off x at)),
        on (exchange a old new) does off s (after_store (ring_slots_of r) p (write a 4 new) looks)
            (kept-store r is kind o es s looks (kept-load r is kind o es s c agrees p a 4 old) p (write a 4 new) (off-keeps r is (write a 4 new) off)),
      )
  quiet None (store w) does off = (off-keeps r is w off, on (store w) does off s c agrees)
  quiet None (exchange a old new) does off = (off-keeps r is (write a 4 new) off, on (exchange a old new) does off s c agrees)
  quiet t x does off = (tt, on x does off s c agrees)

  pub keeps-one : KeepsProtocolBy fastforward r (role_of r (hart_of e)) s (access_of e)
      → Kept (teller_of (ring_slots_of r) (hart_of e)) (access_of e) (next_by fastforward r (role_of r (hart_of e)) s (access_of e))
  keeps-one keeps = by-access fastforward r s (hart_of e)
      (λ t x z. access_of e ≡ x → AllowedBy B (pending (hart_of e) es) (read o es (hart_of e)) x → Kept t x z)
      (λ t x off does allowed. quiet t x does off)
      (λ mine a v does allowed. (
        tt,
        on (load a 4 v) does tt (record s { sending = send_load fastforward r a v s.sending }) (after_load (ring_slots_of r) the_sender a 4 v c)
            (sender-load r is kind o es s c agrees a v (allowed ∙ ap (λ h. read o es h a 4) mine)),
      ))
      (λ mine a v does allowed. (
        tt,
        on (load a 4 v) does tt (record s { receiving = receive_load fastforward r a v s.receiving }) (after_load (ring_slots_of r) the_receiver a 4 v c)
            (receiver-load r is kind o es s c agrees a v (allowed ∙ ap (λ h. read o es h a 4) mine)),
      ))
      (λ mine w at made does allowed. sender-made r is kind o es s c agrees B e even can w s.sending does mine agrees.sending made)
      (λ mine w at made does allowed. receiver-made r is kind o es s c agrees B e even can w s.receiving does mine agrees.receiving made)
      (access_of e) keeps refl can
