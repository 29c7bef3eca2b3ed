-- Each run that keeps Lamport's protocol keeps the protocol of ownership; and what is known at its points.
use Rattle.spsc_queue.proofs.Common.{ℕ, ◌+◌, ◌-◌, ◌≤◌, ◌≡◌, ◌&&◌, Bool, true, false, List, [], ◌∷◌, ◌++◌, length, refl, sym, ◌∙◌, ap, subst, arith, append-nil}
use Rattle.spsc_queue.proofs.Common.{append_assoc, ◌<◌, inl, inr, Write, Entry, OpeningValue, history_of, access_of, hart_of, pending, own_stores, lands}
use Rattle.spsc_queue.proofs.Common.{write_of, memory_byte, read, Allowed, LegalAfter, Legal, LegalAfter-front, LegalAfter-back, balanced, QueueCounts, count}
use Rattle.spsc_queue.proofs.Common.{other, lamport, RingBuffer, IsRingBuffer, slot_offset, overlaps, publishes, releases, capacity_of, next, ReceiverState}
use Rattle.spsc_queue.proofs.Common.{idle, asked, waiting, holding, cleared, ProtocolState, at_start, role_of, next_by, protocol_after, parties_after}
use Rattle.spsc_queue.proofs.Common.{protocol_next, KeepsProtocolBy, KeepsProtocol, SenderState, roomy, FollowsSpscProtocol, ready_by_state, known_by_state}
use Rattle.spsc_queue.proofs.Common.{counts_at_start, cases_lt, eqb-true}
use Rattle.step_machine.proofs.Appended.{LegalAfter-append}
use Rattle.queue_parties.specs.Parties.{Party, the_sender, the_receiver}
use Rattle.spsc_queue.proofs.OwnWords.{all-off}
use Rattle.spsc_queue.proofs.States.{IsAsked, Taking}
use Rattle.spsc_queue.proofs.Counts.{Steady, steady-off, publishes_to, releases_to, counted, counted-taken, counted-released, taken-each, number-one}
use Rattle.spsc_queue.proofs.Counts.{steady-count}
use Rattle.spsc_queue.proofs.Copies.{copy-at-rest, copied-more}
use Rattle.spsc_queue.proofs.Loads.{placed-of, SendingIs}
use Rattle.slot_queue.specs.Queues.{Queue, KeepsOff, IsAtRest, index_word, least_count, IsQueue}
use Rattle.slot_queue.specs.Ownership.{hart, counts_next, KeepsEntry, KeepsOwnership, index}
use Rattle.slot_queue.specs.Laws.{FollowsOwnership, moved_on}
use Rattle.slot_queue.proofs.Sides.{Side, moved-leaves, off-leaves}
use Rattle.slot_queue.proofs.Runs.{one-on, at-rest}
use Rattle.spsc_queue.specs.Instances.{queue_of}
use Rattle.spsc_queue.proofs.LamportRings.{is_queue, offset-word, freed_known, Receiving, Agrees, off-keeps, keeps-one, steadies}
use Rattle.queue_parties.proofs.Parties.{harts-apart}
use Rattle.spsc_queue.proofs.Offsets.{next_offset}
use Rattle.spsc_queue.proofs.Points.{At}
use Rattle.slot_queue.proofs.Codes.{least-near}
use Rattle.slot_queue.proofs.Looks.{bounds, Bounds, reads-other}
use Rattle.slot_queue.proofs.OwnIndex.{reads-through}

-- a point of a run: how its counts and those in memory agree with the protocol's state, and that each pending store of an index moves
-- that on by one

pub asked-of : (r : RingBuffer) (n m k : ℕ) (p : ReceiverState) → n ≡ m → Receiving r n k p → IsAsked r m p × Taking lamport n m p
asked-of r n m k idle level h = (tt, level)
asked-of r n m k (asked u) level h = (h ∙ ap (slot_offset r) level, level)
asked-of r n m k (waiting u) level h = (h.0 ∙ ap (slot_offset r) level, level)
asked-of r n m k (holding u w) level h = (h.0 ∙ ap (slot_offset r) level, level)
asked-of r n m k (cleared u) level h = absurd h

pub record Point (r : RingBuffer) (o : OpeningValue) (es : List Entry) (s : ProtocolState) (c : QueueCounts) (m : Party → ℕ) : Type 0 where
  pub sides : (p : Party) → Side (queue_of r) o es c p (m p)
  pub agrees : Agrees r o es c s
  pub mine : Steady (moved_on (queue_of r) the_sender) (publishes_to lamport r) (m the_sender) (pending r.sender es)
  pub theirs : Steady (moved_on (queue_of r) the_receiver) (releases_to lamport r) (m the_receiver) (pending r.receiver es)
  pub each : Steady (moved_on (queue_of r) the_receiver) (overlaps r) (m the_receiver) (pending r.receiver es)

next-point : (B : ℕ) (r : RingBuffer) (is : IsRingBuffer r) (o : OpeningValue) (es : List Entry) (s : ProtocolState) (c : QueueCounts) (m : Party → ℕ)
    → r.kind ≡ lamport → Point r o es s c m → (e : Entry) → ((h : ℕ) → lands h es ≤ length (own_stores h es)) → Allowed B o es e
    → KeepsProtocolBy lamport r (role_of r (hart_of e)) s (access_of e)
    → KeepsEntry (queue_of r) c e
    × Point r o (es ++ e ∷ []) (next_by lamport r (role_of r (hart_of e)) s (access_of e)) (counts_next (queue_of r) c e)
    (λ t. moved_on (queue_of r) t (m t) (write_of es e))
next-point B r is o es s c m kind t e even can keeps = (
  one.0,
  record {
    sides = one-on B q (is_queue r is) o es e even c m one.0 can t.sides;
    agrees = one.1;
    mine = steadies B r is o es c m t.sides s t.agrees e even can the_sender (publishes_to lamport r) one.0 t.mine
        (let grown = counted lamport r is kind s e keeps (placed-of r s.stored s.published (freed_known r c) s.sending t.agrees.sending) in
        omega (arith, grown, t.agrees.published, one.1.published));
    theirs = steadies B r is o es c m t.sides s t.agrees e even can the_receiver (releases_to lamport r) one.0 t.theirs
        (let grown = counted-released lamport r is kind s e keeps place.0 place.1 in omega (arith, grown, t.agrees.taken, one.1.taken));
    each = steadies B r is o es c m t.sides s t.agrees e even can the_receiver (overlaps r) one.0 t.each
        (let grown = counted-taken lamport r is kind s e keeps (overlaps r) (λ w off. off)
        (λ w on made. taken-each r is s s.receiving place.1 w made ∙ ap (λ n. s.taken + n) (sym (number-one (overlaps r) w true on))) in
        omega (arith, grown, t.agrees.taken, one.1.taken));
  },
)
  where
    q : Queue
    q = queue_of r

    one : KeepsEntry (queue_of r) c e
        × Agrees r o (es ++ e ∷ []) (counts_next (queue_of r) c e) (next_by lamport r (role_of r (hart_of e)) s (access_of e))
    one = keeps-one B r is o es c m t.sides s t.agrees e even can keeps

    place : IsAsked r s.consumed s.receiving × Taking lamport s.taken s.consumed s.receiving
    place = asked-of r s.taken s.consumed (c.known_published - r.start) s.receiving t.agrees.level t.agrees.receiving

-- ---- whole runs

pub record Reached (r : RingBuffer) (o : OpeningValue) (es : List Entry) (s : ProtocolState) : Type 0 where
  pub counts : QueueCounts
  pub memory : Party → ℕ
  pub point : Point r o es s counts memory

keeps-all : (B : ℕ) (r : RingBuffer) (is : IsRingBuffer r) (o : OpeningValue) (before : List Entry)
    (c : QueueCounts) (m : Party → ℕ) (s : ProtocolState) (es : List Entry) → r.kind ≡ lamport → Point r o before s c m
    → Legal B (history_of o before) → LegalAfter B o before es → KeepsProtocol r s es
    → KeepsOwnership (queue_of r) c es × Reached r o (before ++ es) (protocol_after r s es)
keeps-all B r is o before c m s [] kind t legal later keeps =
    (tt, record { counts = c; memory = m; point = subst (λ xs. Point r o xs s c m) (sym (append-nil before)) t })
keeps-all B r is o before c m s (e ∷ es) kind t legal later keeps =
    let even : (h : ℕ) → lands h before ≤ length (own_stores h before) = λ h. balanced B (history_of o before) h legal in
    let one = next-point B r is o before s c m kind t e even later.0
    (subst (λ k. KeepsProtocolBy k r (role_of r (hart_of e)) s (access_of e)) kind keeps.0) in
    let rest = keeps-all B r is o (before ++ e ∷ []) (counts_next (queue_of r) c e) (λ t. moved_on (queue_of r) t (m t) (write_of before e))
    (protocol_next r s e) es kind
    (subst (λ k. Point r o (before ++ e ∷ []) (next_by k r (role_of r (hart_of e)) s (access_of e)) (counts_next (queue_of r) c e)
    (λ t. moved_on (queue_of r) t (m t) (write_of before e))) (sym kind) one.1)
    (LegalAfter-append B o [] before (e ∷ []) legal (later.0, tt)) later.1 keeps.1 in
    ((one.0, rest.0), subst (λ xs. Reached r o xs (protocol_after r (protocol_next r s e) es)) (append_assoc before (e ∷ []) es) rest.1)

module _ (B : ℕ) (r : RingBuffer) (o : OpeningValue) (before es : List Entry) (kind : r.kind ≡ lamport) (f : FollowsSpscProtocol B r o before es) where
  abbrev ring : Queue
  ring = queue_of r

  fits : r.begins_with ≤ r.size - 1
  fits = subst (λ k. r.begins_with ≤ capacity_of k r.size) kind f.rest.fits

  rest : IsAtRest (queue_of r) o before (counts_at_start r)
  rest = record {
    window = record {
      known_published = omega arith;
      published = omega (arith, fits);
      known_taken = omega arith;
      taken = omega arith;
    };
    head = f.rest.head ∙ offset-word r (r.start + r.begins_with) r.begins_with refl;
    tail = f.rest.tail ∙ offset-word r r.start 0 (omega arith);
    pending = λ h. all-off r (KeepsOff (queue_of r)) (off-keeps r f.ring) (pending h before) (f.rest.pending h);
  }

  none_moved : (p : Party) (P : Write → Bool) → ((w : Write) → overlaps r w ≡ false → P w ≡ false) → (n : ℕ)
      → Steady (moved_on (queue_of r) p) P n (pending (hart (queue_of r) p) before)
  none_moved p P off n = steady-off (moved_on ring p) (λ k. refl) (λ k w ws. refl) P r
      (λ k w no. (moved-leaves ring (is_queue r f.ring) p k w (off-leaves ring (is_queue r f.ring) p w (off-keeps r f.ring w no)), off w no)) n
      (pending (hart ring p) before) (all-off r (λ w. overlaps r w ≡ false) (λ w no. no) (pending (hart ring p) before) (f.rest.pending (hart ring p)))

  begins : Point r o before (at_start r o before) (counts_at_start r) (λ t. count t (counts_at_start r))
  begins = record {
    sides = at-rest (queue_of r) (is_queue r f.ring) o before (counts_at_start r) rest;
    agrees = record {
      numbers = record { published = refl; taken = omega arith; begun = omega arith; room = omega (arith, fits, f.ring.some_slots) };
      sending = refl;
      copied = copy-at-rest r f.ring o before (r.start - r.start) f.rest;
      receiving = tt;
      level = refl;
    };
    mine = none_moved the_sender (publishes_to lamport r) (λ w no. ap (λ b. b && publishes lamport r w) no) (r.start + r.begins_with);
    theirs = none_moved the_receiver (releases_to lamport r) (λ w no. ap (λ b. b && releases lamport r w) no) r.start;
    each = none_moved the_receiver (overlaps r) (λ w no. no) r.start;
  }

  pub both : KeepsOwnership (queue_of r) (counts_at_start r) es × Reached r o (before ++ es) (parties_after r o before es)
  both = keeps-all B r f.ring o before (counts_at_start r) (λ t. count t (counts_at_start r)) (at_start r o before) es kind begins
      (LegalAfter-front B o [] before es f.legal) (LegalAfter-back B o [] before es f.legal) f.keeps

  pub lamport_owns : FollowsOwnership B (queue_of r) (counts_at_start r) o before es
  lamport_owns = record { queue = is_queue r f.ring; legal = f.legal; rest = rest; keeps = both.0 }

known-most : (r : RingBuffer) (n k l : ℕ) (p : ReceiverState) → n ≤ l → k ≤ l → Receiving r n k p → n + known_by_state p ≤ l
known-most r n k l (waiting u) le less is = omega (arith, is.1, less)
known-most r n k l (holding u w) le less is = omega (arith, is.1, less)
known-most r n k l p le less is = omega (arith, le)

ready-most : (r : RingBuffer) (stored published n m : ℕ) (p : SenderState) → n ≤ m → stored + 1 ≤ n + r.size → SendingIs r stored published n p
    → stored + ready_by_state p + 1 ≤ m + r.size
ready-most r stored published n m (roomy u) less le is = omega (arith, is.2, less)
ready-most r stored published n m p less le is = omega (arith, le, less)

module _ (r : RingBuffer) (is : IsRingBuffer r) (o : OpeningValue) (es : List Entry) (s : ProtocolState) (c : QueueCounts) (m : Party → ℕ)
    (t : Point r o es s c m) where
  abbrev q : Queue
  q = queue_of r

  queue : IsQueue q
  queue = is_queue r is

  low : Bounds q c the_sender (m the_sender)
  low = bounds q o es c the_sender (m the_sender) (t.sides the_sender)

  high : Bounds q c the_receiver (m the_receiver)
  high = bounds q o es c the_receiver (m the_receiver) (t.sides the_receiver)

  -- what a party reads in its own index, and in the other's
  own-word : (p : Party) → read o es (hart q p) (index q p) 4 ≡ index_word q (count p c)
  own-word p = reads-through q queue p (memory_byte o es) (m p) (pending (hart q p) es) (t.sides p).own (t.sides p).word
      ∙ ap (index_word q) (t.sides p).count_is

  other-word : (p : Party) → read o es (hart q p) (index q (other p)) 4 ≡ index_word q (m (other p))
  other-word p = reads-other q o es c (other p) (m (other p)) (t.sides (other p)) (hart q p) (harts-apart q.sender q.receiver queue.parties p)

  -- two counts that are near and have one word are one
  same-count-of : (n j k : ℕ) → n ≤ j → n ≤ k → j < n + r.size → k < n + r.size → index_word q j ≡ index_word q k → j ≡ k
  same-count-of n j k one two near far same =
      sym (least-near q queue n j one near) ∙ ap (least_count q n) same ∙ least-near q queue n k two far

  pub lamport-at : At lamport r o es s
  lamport-at = record {
    there = m the_sender - r.start;
    freed = m the_receiver - r.start;
    placed_at = placed-of r s.stored s.published (freed_known r c) s.sending t.agrees.sending;
    asked_at = place.0;
    taking = place.1;
    known_there = known-most r s.taken (c.known_published - r.start) (m the_sender - r.start) s.receiving
        (omega (arith, t.agrees.taken, high.count_end, low.known_there)) (omega (arith, low.known_there)) t.agrees.receiving;
    ready_freed = ready-most r s.stored s.published (freed_known r c) (m the_receiver - r.start) s.sending
        (omega (arith, high.known_there)) t.agrees.room t.agrees.sending;
    words_held = (let all = steady-count (moved_on q the_sender) (λ n. refl) (λ n w ws. refl) (publishes_to lamport r)
        (m the_sender) (pending r.sender es) t.mine in
        omega (arith, all, (t.sides the_sender).count_is, t.agrees.published, t.agrees.taken, high.count_end, low.known_there));
    slots_held = (let all = steady-count (moved_on q the_receiver) (λ n. refl) (λ n w ws. refl) (releases_to lamport r)
        (m the_receiver) (pending r.receiver es) t.theirs in
        omega (arith, all, (t.sides the_receiver).count_is, t.agrees.taken, t.agrees.begun, high.known_there));
    empty = λ u v was found says.
        let at : u ≡ slot_offset r s.taken = subst (Receiving r s.taken (c.known_published - r.start)) was t.agrees.receiving in
        let word : index_word q (m the_sender) ≡ index_word q c.taken =
        sym (found ∙ other-word the_receiver) ∙ eqb-true v u says ∙ at ∙ offset-word r c.taken s.taken t.agrees.taken in
        let same : m the_sender ≡ c.taken = same-count-of c.taken (m the_sender) c.taken (omega (arith, high.count_end, low.known_there)) (omega arith)
        (omega (arith, low.there, low.count_end, high.known_there, high.there, is.some_slots)) (omega (arith, is.some_slots)) word in
        omega (arith, same, t.agrees.taken);
    found = λ kind u v was found says. absurd (cc);
    full = λ u v was found says.
        let at : (s.stored ≡ s.published) × (u ≡ slot_offset r s.published) = subst (SendingIs r s.stored s.published (freed_known r c)) was t.agrees.sending in
        let word : index_word q (m the_receiver) ≡ index_word q (c.published + 1) =
        sym (found ∙ other-word the_sender) ∙ eqb-true v (next r u) says ∙ next_offset r is u s.published at.1
        ∙ offset-word r (c.published + 1) (s.published + 1) (omega (arith, t.agrees.published)) in
        elim (cases_lt (c.published + 1) (m the_receiver + r.size)) [
          | inl near ↦
              let same : m the_receiver ≡ c.published + 1 = same-count-of (m the_receiver) (m the_receiver) (c.published + 1) (omega arith)
              (omega (arith, high.there, high.count_end, low.known_there, low.there)) (omega (arith, is.some_slots)) near word in
              absurd (omega (arith, same, high.there, high.count_end, low.known_there, low.there))
          | inr full ↦ omega (arith, full, t.agrees.published, at.0, t.agrees.begun, high.known_there)
        ];
    alone = λ kind u was. absurd (cc);
    head = own-word the_sender ∙ sym (offset-word r c.published s.published t.agrees.published);
    tail = own-word the_receiver ∙ sym (offset-word r c.taken s.taken t.agrees.taken) ∙ ap (slot_offset r) t.agrees.level;
    copied = copied-more lamport r.copy r o es (s.stored + ready_by_state s.sending) (freed_known r c) (s.stored + ready_by_state s.sending) s.taken
        (omega arith) (omega (arith, high.known_there, high.there, t.agrees.taken)) t.agrees.copied;
    free = λ kind none j from below. absurd (cc);
    room = λ kind. (let all = steady-count (moved_on q the_receiver) (λ n. refl) (λ n w ws. refl) (overlaps r)
        (m the_receiver) (pending r.receiver es) t.each in
        omega (arith, all, (t.sides the_receiver).count_is, t.agrees.taken, t.agrees.room, high.known_there, is.some_slots));
  }
    where
      place : IsAsked r s.consumed s.receiving × Taking lamport s.taken s.consumed s.receiving
      place = asked-of r s.taken s.consumed (c.known_published - r.start) s.receiving t.agrees.level t.agrees.receiving

pub lamport_at : (B : ℕ) (r : RingBuffer) (o : OpeningValue) (before es : List Entry) → r.kind ≡ lamport → FollowsSpscProtocol B r o before es
    → At lamport r o (before ++ es) (parties_after r o before es)
lamport_at B r o before es kind f = let t = (both B r o before es kind f).1 in
    lamport-at r f.ring o (before ++ es) (parties_after r o before es) t.counts t.memory t.point
