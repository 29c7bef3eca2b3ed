use Rattle.step_machine.proofs.OwnRuns.{kept-front}
use Rattle.queue_parties.specs.Positions.{numbers_from}
use Rattle.spsc_queue.proofs.Common.{[], sym, append-nil, ℕ, ◌≡◌, ◌⊎◌, inl, inr, List, ◌∷◌, ◌++◌, refl, ◌∙◌, ap, subst, append_assoc, Entry, OpeningValue, ◌+◌}
use Rattle.spsc_queue.proofs.Common.{history_of, WellFormed, SpscQueue, CallerObligation, UsesAsSpscQueue, ◌-◌, ◌*◌, ◌%◌, ◌<◌, ◌≤◌, ◌≢◌, false, Some, length}
use Rattle.spsc_queue.proofs.Common.{arith, slice_index, Legal, pending, memory_word, Kind, lamport, fastforward, RingBuffer, IsRingBuffer, slot_offset, buffer}
use Rattle.spsc_queue.proofs.Common.{slot_address, writes_to, IsQuiescent, capacity_of, ProtocolState, parties_after, FollowsSpscProtocol, ready_by_state}
use Rattle.spsc_queue.proofs.Common.{available_count, ring_at, is_sender_in_call, is_receiver_in_call, received_words, given_words}
use Rattle.spsc_queue.proofs.Calls.{calls_follow}
use Rattle.spsc_queue.proofs.CallLaws.{fifo, fifo_within, always_capacity, idle_capacity, publication, message_passing, reclamation, handing_back, idle_words}
use Rattle.spsc_queue.proofs.CallLaws.{idle_sent, idle_received}
use Rattle.spsc_queue.proofs.laws_of_calls.Goals as goal
use Rattle.spsc_queue.specs.RingBuffers.{waiting_words}
use Rattle.spsc_queue.specs.Calls.{the_receiver, block_after, the_sender}
use Rattle.spsc_queue.proofs.Offsets.{slot_word}
use Rattle.spsc_queue.proofs.OwnWords.{quiet_read}
use Rattle.spsc_queue.proofs.States.{firsts, spare_capacity, whole-counts}
use Rattle.spsc_queue.proofs.Copies.{Copied}
use Rattle.spsc_queue.proofs.Numbers.{numbers-moved, firsts-on}
use Rattle.spsc_queue.proofs.Growing.{follows-front}
use Rattle.spsc_queue.proofs.Points.{At}
use Rattle.spsc_queue.proofs.Contents.{Content, counts, word-mine}
use Rattle.spsc_queue.proofs.Parts.{ring_is}
use Rattle.spsc_queue.proofs.Runs.{at-of, sent_before, freed_before, content-of, known-of}
use Rattle.spsc_queue.proofs.Cases.{IsWhole}

-- A queue that is at rest again, at whichever slot and with whichever words in it, may be used from there on, also by other harts.

-- the words of the block where no store to it is pending, and the words from m to n wait
record IsQuiet (k : Kind) (r : RingBuffer) (L : ℕ → ℕ) (o : OpeningValue) (es : List Entry) (m n : ℕ) : Type 0 where
  head : memory_word o es r.head ≡ slot_offset r n
  tail : memory_word o es r.tail ≡ slot_offset r m
  least : m ≤ n
  most : n ≤ m + capacity_of k r.size
  full : (j : ℕ) → m ≤ j → j < n → memory_word o es (slot_address r j) ≡ L j
  nonzero : k ≡ fastforward → (j : ℕ) → j < n → L j ≢ 0
  free : k ≡ fastforward → (j : ℕ) → n ≤ j → j < m + r.size → memory_word o es (slot_address r j) ≡ 0
  copy : (a : ℕ) → r.copy ≡ Some a → (j : ℕ) × (n < j) × (j ≤ m + r.size) × (memory_word o es a ≡ slot_offset r j)

copy-quiet : (k : Kind) (r : RingBuffer) (is : IsRingBuffer r) (o : OpeningValue) (es : List Entry) (n m a : ℕ) → r.copy ≡ Some a
    → writes_to r (pending r.sender es) ≡ [] → Copied k (Some a) r o es n m
    → (j : ℕ) × (n < j) × (j ≤ m + r.size) × (memory_word o es a ≡ slot_offset r j)
copy-quiet fastforward r is o es n m a some none copy = absurd (cc)
copy-quiet lamport r is o es n m a some none copy = grind (arith, copy, quiet_read)

quiet : (B : ℕ) (k : Kind) (r : RingBuffer) (is : IsRingBuffer r) (L : ℕ → ℕ) (o : OpeningValue) (b d : ℕ) (es : List Entry) (s : ProtocolState)
    (at : At k r o es s) → Content k r L o b d es s → Legal B (history_of o es) → s.stored ≡ s.published → IsWhole s.receiving
    → ((h : ℕ) → writes_to r (pending h es) ≡ []) → IsQuiet k r L o es s.taken s.stored
quiet B k r is L o b d es s at c legal level whole none =
    let bounds = counts B k r L o b d es s at c legal in
    record {
      head = sym (quiet_read r o es r.sender r.head is.head.above is.head.below (none r.sender)) ∙ at.head ∙ ap (slot_offset r) (sym level);
      tail = sym (quiet_read r o es r.receiver r.tail is.tail.above is.tail.below (none r.receiver)) ∙ at.tail
          ∙ ap (slot_offset r) (sym (whole-counts k s.taken s.consumed s.receiving whole at.taking));
      least = omega (arith, bounds.3, bounds.0, bounds.1);
      most = omega (arith, at.ready_freed, bounds.2, spare_capacity k r.size is.some_slots);
      full = λ j from below. (let word = slot_word r is j in
          sym (quiet_read r o es r.sender (slot_address r j) word.above word.below (none r.sender)) ∙ word-mine B k r L o b d es s at c legal j from below);
      nonzero = c.nonzero;
      free = λ kind j from below. at.free kind none j from below;
      copy = λ a some.
          let place = copy-quiet k r is o es (s.stored + ready_by_state s.sending) s.taken a some (none r.sender)
          (subst (λ q. Copied k q r o es (s.stored + ready_by_state s.sending) s.taken) some at.copied) in
          (place.0, omega (arith, place.1), place.2, place.3);
    }

module _ (B M : ℕ) (o : OpeningValue) (q : SpscQueue) (before es : List Entry) (c : UsesAsSpscQueue B M o q before es)
    (idle_sender : is_sender_in_call M o q before es ≡ false) (idle_receiver : is_receiver_in_call M o q before es ≡ false)
    (none : (h : ℕ) → writes_to (buffer q) (pending h (before ++ es)) ≡ []) where
  abbrev r : RingBuffer
  r = buffer q

  abbrev s : ProtocolState
  s = parties_after r o before es

  abbrev L : ℕ → ℕ
  L = slice_index (parties_after r o before (es ++ [])).sent

  -- how many words were received, and how many were given
  abbrev m : ℕ
  m = length (received_words M o q before es)

  abbrev n : ℕ
  n = length (given_words M o q before es)

  whole : es ≡ es ++ []
  whole = sym (append-nil es)

  follows : FollowsSpscProtocol B r o before (es ++ [])
  follows = subst (FollowsSpscProtocol B r o before) whole (calls_follow B M o q before es c)

  sent : (s.stored ≡ n) × (available_count r s ≡ n) × (s.stored ≡ s.published)
  sent = idle_sent B M o q before es c es [] whole idle_sender

  front : FollowsSpscProtocol B r o before es
  front = follows-front B r o before es [] follows

  rest : IsQuiet q.block.kind r L o (before ++ es) m n
  rest = subst (λ i. IsQuiet q.block.kind r L o (before ++ es) i n) (idle_received B M o q before es c es [] whole idle_receiver)
      (subst (IsQuiet q.block.kind r L o (before ++ es) s.taken) sent.0
      (quiet B q.block.kind r (ring_is M q.block q.sender q.receiver c.shares.block c.shares.parties) L o (sent_before r before) (freed_before r before)
      (before ++ es) s (at-of B r o before es front) (content-of B r o before es [] follows) front.legal sent.2
      (idle_words B M o q before es c es [] whole the_receiver idle_receiver).0.receiving none))

  -- place j of the block that moved on is place m + j of this one
  offset_on : (j i : ℕ) → m + j ≡ i → 4 * ((q.block.start + i) % q.block.size) ≡ 4 * ((q.block.start + m + j) % q.block.size)
  offset_on j i at = ap (λ k. 4 * (k % q.block.size)) (omega (arith, at))

  word_on : (j i : ℕ) → m + j ≡ i → memory_word o (before ++ es) (r.slots + 4 * ((q.block.start + m + j) % q.block.size))
      ≡ memory_word o (before ++ es) (slot_address r i)
  word_on j i at = ap (λ x. memory_word o (before ++ es) (r.slots + x)) (sym (offset_on j i at))

  pub changes_hands : (a b : ℕ) → IsQuiescent (ring_at (block_after M o q before es) a b) o (before ++ es)
  changes_hands a b = record {
    fits = omega (arith, rest.least, rest.most);
    head = rest.head ∙ offset_on (n - m) n (omega (arith, rest.least));
    tail = rest.tail ∙ offset_on 0 m (omega arith);
    pending = none;
    words = λ kind j below zero. rest.nonzero kind (m + j) (omega (arith, below))
        (sym (rest.full (m + j) (omega arith) (omega (arith, below))) ∙ sym (word_on j (m + j) refl) ∙ zero);
    free = λ kind j from below. word_on j (m + j) refl ∙ rest.free kind (m + j) (omega (arith, from)) (omega (arith, below));
    copy = λ d some.
        let at = rest.copy d some in
        (at.0 - m, omega (arith, at.1, rest.least), omega (arith, at.2), at.3 ∙ offset_on (at.0 - m) at.0 (omega (arith, at.1, rest.least)));
  }

  -- and the words that wait in it are those that were given and not received
  pub waiting_left : (a b : ℕ) → received_words M o q before es ++ waiting_words (ring_at (block_after M o q before es) a b) o (before ++ es)
      ≡ given_words M o q before es
  waiting_left a b =
      let facts = known-of B r o before es [] follows in
      let word : ℕ → ℕ = λ j. memory_word o (before ++ es) (r.slots + 4 * ((q.block.start + m + j) % q.block.size)) in
      let received : received_words M o q before es ≡ firsts L m =
      sym (idle_words B M o q before es c es [] whole the_receiver idle_receiver).1 ∙ facts.received
      ∙ ap (firsts L) (idle_received B M o q before es c es [] whole idle_receiver) in
      let left : numbers_from word 0 (n - m) ≡ numbers_from L m (n - m) =
      numbers-moved word L 0 m (n - m) (λ i below. word_on (0 + i) (m + i) (omega arith) ∙ rest.full (m + i) (omega arith) (omega (arith, below))) in
      ap (λ xs. xs ++ numbers_from word 0 (n - m)) received ∙ ap (λ xs. firsts L m ++ xs) left ∙ firsts-on L m n rest.least
      ∙ ap (firsts L) (sym sent.0) ∙ sym facts.sent ∙ (idle_words B M o q before es c es [] whole the_sender idle_sender).1

-- A run that uses a queue does so up to each point, and with one entry more that owes nothing.

-- an entry of a longer list stands in the shorter one, or is the last
record Old (es done : List Entry) (e : Entry) : Type 0 where
  rest : List Entry
  is : es ≡ done ++ e ∷ rest

record New (es done : List Entry) (d e : Entry) : Type 0 where
  same : d ≡ e
  all : es ≡ done

split : (es : List Entry) (d : Entry) (done : List Entry) (e : Entry) (more : List Entry) → es ++ d ∷ [] ≡ done ++ e ∷ more → Old es done e ⊎ New es done d e
split [] d [] e more is = inr (record { same = cc; all = refl })
split [] d (x ∷ []) e more is = absurd (cc)
split [] d (x ∷ y ∷ done) e more is = absurd (cc)
split (x ∷ es) d [] e more is = let same : x ≡ e = cc in inl (record { rest = es; is = ap (λ g. g ∷ es) same })
split (x ∷ es) d (y ∷ done) e more is =
    let same : x ≡ y = cc in
    let tails : es ++ d ∷ [] ≡ done ++ e ∷ more = cc in
    elim (split es d done e more tails) [
      | inl old ↦ inl (record { rest = old.rest; is = ap (λ g. g ∷ es) same ∙ ap (λ zs. y ∷ zs) old.is })
      | inr new ↦ inr (record { same = new.same; all = ap (λ g. g ∷ es) same ∙ ap (λ zs. y ∷ zs) new.all })
    ]

pub extends : (B M : ℕ) (o : OpeningValue) (q : SpscQueue) (before es : List Entry) (e : Entry) → UsesAsSpscQueue B M o q before es
    → WellFormed B M (history_of o (before ++ (es ++ e ∷ []))) → CallerObligation M o q before es e → UsesAsSpscQueue B M o q before (es ++ e ∷ [])
extends B M o q before es e c run last = record {
  shares = record { block = c.shares.block; parties = c.shares.parties; run = run; rest = c.shares.rest; sends = c.shares.sends; receives = c.shares.receives };
  owed = λ done d more is. elim (split es e done d more is) [
    | inl old ↦ c.owed done d old.rest old.is
    | inr new ↦ subst (λ g. CallerObligation M o q before done g) new.same (subst (λ zs. CallerObligation M o q before zs e) new.all last)
  ];
}

pub fronts : (B M : ℕ) (o : OpeningValue) (q : SpscQueue) (before es fs : List Entry) → UsesAsSpscQueue B M o q before (es ++ fs)
    → UsesAsSpscQueue B M o q before es
fronts B M o q before es fs c = record {
  shares = record {
    block = c.shares.block;
    parties = c.shares.parties;
    run = kept-front B M o (before ++ es) fs (subst (λ zs. WellFormed B M (history_of o zs)) (sym (append_assoc before es fs)) c.shares.run);
    rest = c.shares.rest;
    sends = c.shares.sends;
    receives = c.shares.receives;
  };
  owed = λ done e more is. c.owed done e (more ++ fs) (ap (λ zs. zs ++ fs) is ∙ append_assoc done (e ∷ more) fs);
}

pub returns-clause-follows : goal.returns-clause-follows
returns-clause-follows c = λ B M o q before es uses. calls_follow B M o q before es uses

pub returns-clause-fifo : goal.returns-clause-fifo
returns-clause-fifo c = λ B M o q before es uses idle. fifo B M o q before es uses idle

pub returns-clause-fifo_within : goal.returns-clause-fifo_within
returns-clause-fifo_within c = λ B M o q before es uses s at. fifo_within B M o q before es uses s at

pub returns-clause-capacity : goal.returns-clause-capacity
returns-clause-capacity c = λ B M o q before es uses idle. idle_capacity B M o q before es uses es [] (sym (append-nil es)) idle

pub returns-clause-capacity_within : goal.returns-clause-capacity_within
returns-clause-capacity_within c = λ B M o q before es uses. always_capacity B M o q before es uses es [] (sym (append-nil es))

pub returns-clause-publication : goal.returns-clause-publication
returns-clause-publication c = λ B M o q before es fs uses idle more. publication B M o q before es fs uses idle more

pub returns-clause-message_passing : goal.returns-clause-message_passing
returns-clause-message_passing c = λ B M o q before es fs uses idle more h x only leave. message_passing B M o q before es fs uses idle more h x only leave

pub returns-clause-reclamation : goal.returns-clause-reclamation
returns-clause-reclamation c = λ B M o q before es fs uses idle more. reclamation B M o q before es fs uses idle more

pub returns-clause-handing_back : goal.returns-clause-handing_back
returns-clause-handing_back c = λ B M o q before es fs uses idle more h x only leave. handing_back B M o q before es fs uses idle more h x only leave

pub returns-clause-extends : goal.returns-clause-extends
returns-clause-extends c = λ B M o q before es e uses run owed. extends B M o q before es e uses run owed

pub returns-clause-fronts : goal.returns-clause-fronts
returns-clause-fronts c = λ B M o q before es fs uses. fronts B M o q before es fs uses

pub returns-clause-changes_hands : goal.returns-clause-changes_hands
returns-clause-changes_hands c = changes_hands

pub returns-clause-waiting : goal.returns-clause-waiting
returns-clause-waiting c = waiting_left
