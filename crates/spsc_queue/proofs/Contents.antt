-- The words in a queue's slots at each point of a run, and what the parties have received and made of them.
use Rattle.spsc_queue.proofs.Common.{ℕ, suc, ◌+◌, ◌*◌, ◌<◌, ◌≤◌, ◌≡◌, ◌≢◌, ◌==◌, ◌⊎◌, inl, inr, if◌then◌else◌, Option, Some, None, List, [], ◌∷◌, ◌++◌, length}
use Rattle.spsc_queue.proofs.Common.{refl, sym, ◌∙◌, ap, subst, arith, append-nil, append_assoc, length-append, slice_index, cases_eq, eq-eqb, ne_eqb, Write}
use Rattle.spsc_queue.proofs.Common.{Entry, OpeningValue, history_of, Access, load, store, access_of, hart_of, stored_by, pending, read, read_byte, own_store}
use Rattle.spsc_queue.proofs.Common.{own_stores, lands, AllowedBy, Allowed, LegalAfter, Legal, LegalAfter-front, LegalAfter-back, stores-append, balanced}
use Rattle.spsc_queue.proofs.Common.{IsOnlyWriter, Kind, lamport, fastforward, RingBuffer, IsRingBuffer, slot_offset, slot_address, SenderState, renewing}
use Rattle.spsc_queue.proofs.Common.{roomy, filled, ReceiverState, idle, asked, waiting, holding, cleared, ProtocolState, role_of, send_load, send_store}
use Rattle.spsc_queue.proofs.Common.{receive_look, receive_load, receive_store, IsWordAt, IsCopyStore, IsSenderStore, IsReceiverStore, next_by, IsSendable}
use Rattle.spsc_queue.proofs.Common.{WritesNothingTo, KeepsProtocolBy, available_of, known_by_state, ready_by_state}
use Rattle.memory.proofs.Bytes.{joined-same}
use Rattle.store_buffers.specs.StoreBuffers.{LeavesByteBy, AllLeaveByte}
use Rattle.store_buffers.proofs.MessagePassing.{kept, handed_over}
use Rattle.spsc_queue.proofs.Cases.{by-test, by-access, by-receive-load}
use Rattle.spsc_queue.proofs.Offsets.{offset_low, slots_apart, slot_off, slot_word}
use Rattle.spsc_queue.proofs.OwnWords.{IsAloneAt, Own, LeavesWord, off_leaves_by, past-byte, past, only-own, own-stored, byte-kept}
use Rattle.spsc_queue.proofs.States.{firsts, IsPlaced, IsAsked, Taking, available_stored, near-counts}
use Rattle.spsc_queue.proofs.Counts.{number_of, publishes_to, releases_to, counted, counted-released, landed_number, landed-on, landed-past, number-last}
use Rattle.spsc_queue.proofs.Growing.{word_ahead, length-firsts}
use Rattle.spsc_queue.proofs.Points.{At}

-- word j lies in its slot since a point of the run: no other hart had a store pending over it there, and since then nobody has written there.
-- No hart had one there, or the sender's last store was that of word j, and its stores before that one make j words available
pub record Kept (k : Kind) (r : RingBuffer) (L : ℕ → ℕ) (o : OpeningValue) (b : ℕ) (now : List Entry) (j : ℕ) : Type 0 where
  pub front : List Entry
  pub back : List Entry
  pub is : now ≡ front ++ back
  pub own : Own r.sender o front (slot_address r j) (L j)
  pub leaves : (y : ℕ) → slot_address r j ≤ y → y < slot_address r j + 4 → AllLeaveByte y back
  pub since : ((h : ℕ) → Own h o front (slot_address r j) (L j))
      ⊎ ((xs : List Write) × (w : Write) × (own_stores r.sender front ≡ xs ++ w ∷ []) × (j + b ≡ r.begins_with + number_of (publishes_to k r) xs))

-- the receiver holds the next word
abbrev pub Holds : (ℕ → ℕ) → (taken : ℕ) → ReceiverState → Type 0
Holds L n (holding u w) = w ≡ L n
Holds L n p = Unit {0}

pub record Stored (k : Kind) (r : RingBuffer) (L : ℕ → ℕ) (o : OpeningValue) (b : ℕ) (now : List Entry) (s : ProtocolState) : Type 0 where
  pub sent : s.sent ≡ firsts L s.stored
  pub received : s.received ≡ firsts L s.taken
  pub holds : Holds L s.taken s.receiving
  pub nonzero : k ≡ fastforward → (j : ℕ) → j < s.stored → L j ≢ 0
  pub alone : k ≡ lamport → (y : ℕ) → r.slots ≤ y → y < r.slots + 4 * r.size → IsOnlyWriter r.sender y now
  pub words : (j : ℕ) → s.taken ≤ j → j < s.stored → Kept k r L o b now j

-- and the sender's publishing stores, less b made before, are as the available words say; the receiver's freeing ones, less d, as the taken words
pub record Content (k : Kind) (r : RingBuffer) (L : ℕ → ℕ) (o : OpeningValue) (b d : ℕ) (now : List Entry) (s : ProtocolState) : Type 0 where
  pub contents : Stored k r L o b now s
  pub open contents use *
  pub mine : available_of k s + b ≡ r.begins_with + number_of (publishes_to k r) (own_stores r.sender now)
  pub theirs : s.taken + d ≡ number_of (releases_to k r) (own_stores r.receiver now)

leave-last : (y : ℕ) (es : List Entry) (e : Entry) → AllLeaveByte y es → LeavesByteBy y (access_of e) → AllLeaveByte y (es ++ e ∷ [])
leave-last y [] e all one = (one, tt)
leave-last y (f ∷ es) e all one = (all.0, leave-last y es e all.1 one)

module _ (B : ℕ) (k : Kind) (r : RingBuffer) (L : ℕ → ℕ) (o : OpeningValue) (b d : ℕ) (now : List Entry) (s : ProtocolState) (at : At k r o now s)
    (c : Content k r L o b d now s) (legal : Legal B (history_of o now)) where
  -- how many of these stores have landed
  pub mine-landed : at.there + b ≡ r.begins_with + landed_number (publishes_to k r) r.sender now
  mine-landed = omega (arith, at.words_held, c.mine, landed-on (publishes_to k r) r.sender now)

  pub theirs-landed : at.freed + d ≡ landed_number (releases_to k r) r.receiver now
  theirs-landed = omega (arith, at.slots_held, c.theirs, landed-on (releases_to k r) r.receiver now)

  pub counts : (at.there ≤ available_of k s) × (available_of k s ≤ s.stored) × (at.freed ≤ s.taken) × (s.taken ≤ at.there)
  counts = grind (arith, available_stored, near-counts)

  -- a hart that reads a word alone reads it still, where nobody has written there since
  since : (h a v : ℕ) (front back : List Entry) → now ≡ front ++ back → Own h o front a v → ((y : ℕ) → a ≤ y → y < a + 4 → AllLeaveByte y back)
      → read o now h a 4 ≡ v
  since h a v front back is own leaves = ap (λ xs. read o xs h a 4) is
      ∙ joined-same (λ i. read_byte o (front ++ back) h (a + i)) (λ i. read_byte o front h (a + i)) 4 (λ i lt.
      (kept B o h (a + i) front back (λ g. balanced B (history_of o front) g (LegalAfter-front B o [] front back whole))
      (LegalAfter-back B o [] front back whole) (own.alone (a + i) (omega arith) (omega (arith, lt))) (leaves (a + i) (omega arith) (omega (arith, lt)))).0)
      ∙ own.reads
    where
      whole : LegalAfter B o [] (front ++ back)
      whole = subst (LegalAfter B o []) is legal

  pub word-mine : (j : ℕ) → s.taken ≤ j → j < s.stored → read o now r.sender (slot_address r j) 4 ≡ L j
  word-mine j from below = let w : Kept k r L o b now j = c.words j from below in
      since r.sender (slot_address r j) (L j) w.front w.back w.is w.own w.leaves

  -- what is there in memory, the receiver reads
  pub word-there : (j : ℕ) → s.taken ≤ j → j < at.there → read o now r.receiver (slot_address r j) 4 ≡ L j
  word-there j from below = by kept_there.since
    where
      a : ℕ
      a = slot_address r j

      kept_there : Kept k r L o b now j
      kept_there = c.words j from (omega (arith, below, counts.0, counts.1))

      front : List Entry
      front = kept_there.front

      back : List Entry
      back = kept_there.back

      by : ((h : ℕ) → Own h o kept_there.front (slot_address r j) (L j))
          ⊎ ((xs : List Write) × (w : Write) × (own_stores r.sender kept_there.front ≡ xs ++ w ∷ [])
          × (j + b ≡ r.begins_with + number_of (publishes_to k r) xs)) → read o now r.receiver (slot_address r j) 4 ≡ L j
      by (inl all) = since r.receiver (slot_address r j) (L j) kept_there.front kept_there.back kept_there.is (all r.receiver) kept_there.leaves
      by (inr made) = ap (λ ys. read o ys r.receiver a 4) kept_there.is
          ∙ joined-same (λ i. read_byte o (front ++ back) r.receiver (a + i)) (λ i. read_byte o front r.sender (a + i)) 4 (λ i lt.
          handed_over B o r.sender r.receiver (a + i) front back whole enough (kept_there.own.alone (a + i) (omega arith) (omega (arith, lt)))
          (kept_there.leaves (a + i) (omega arith) (omega (arith, lt))))
          ∙ kept_there.own.reads
        where
          whole : LegalAfter B o [] (front ++ back)
          whole = subst (LegalAfter B o []) kept_there.is legal

          parts : own_stores r.sender now ≡ made.0 ++ (made.1 ∷ own_stores r.sender back)
          parts = ap (own_stores r.sender) kept_there.is ∙ stores-append r.sender front back ∙ ap (λ ws. ws ++ own_stores r.sender back) made.2
              ∙ append_assoc made.0 (made.1 ∷ []) (own_stores r.sender back)

          past_it : length made.0 < lands r.sender now
          past_it = landed-past (publishes_to k r) r.sender now made.0 (made.1 ∷ own_stores r.sender back) parts (omega (arith, mine-landed, made.3, below))

          enough : length (own_stores r.sender front) ≤ lands r.sender (front ++ back)
          enough = let long : length (own_stores r.sender front) ≡ length made.0 + 1 = ap length made.2 ∙ length-append made.0 (made.1 ∷ []) in
              let same : lands r.sender now ≡ lands r.sender (front ++ back) = ap (lands r.sender) kept_there.is in
              omega (arith, long, same, past_it)

-- ---- one entry

module _ (B : ℕ) (k : Kind) (r : RingBuffer) (is : IsRingBuffer r) (kind : r.kind ≡ k) (F : List ℕ) (o : OpeningValue) (b d : ℕ) (now : List Entry)
    (s : ProtocolState) (at : At k r o now s) (c : Content k r (slice_index F) o b d now s) (legal : Legal B (history_of o now)) (e : Entry)
    (can : Allowed B o now e) where
  abbrev L : ℕ → ℕ
  L = slice_index F

  abbrev after : List Entry
  after = now ++ e ∷ []

  abbrev Next : ProtocolState → Type 0
  Next z = Stored k r (slice_index F) o b (now ++ e ∷ []) z

  even : (h : ℕ) → lands h now ≤ length (own_stores h now)
  even h = balanced B (history_of o now) h legal

  bounds : (at.there ≤ available_of k s) × (available_of k s ≤ s.stored) × (at.freed ≤ s.taken) × (s.taken ≤ at.there)
  bounds = counts B k r (slice_index F) o b d now s at c legal

  fits : s.stored + ready_by_state s.sending ≤ s.taken + r.size
  fits = omega (arith, at.ready_freed, bounds.2)

  kept-on : (x : Access) → access_of e ≡ x → (j : ℕ) → LeavesWord (slot_address r j) x → Kept k r (slice_index F) o b now j
      → Kept k r (slice_index F) o b (now ++ e ∷ []) j
  kept-on x does j left w = record {
    front = w.front;
    back = w.back ++ e ∷ [];
    is = ap (λ xs. xs ++ e ∷ []) w.is ∙ append_assoc w.front w.back (e ∷ []);
    own = w.own;
    leaves = λ y from below. leave-last y w.back e (w.leaves y from below) (subst (LeavesByteBy y) (sym does) (left y from below));
    since = w.since;
  }

  -- no other hart than the sender writes to Lamport's slots
  alone-left : (x : Access) → access_of e ≡ x → ((y : ℕ) → r.slots ≤ y → y < r.slots + 4 * r.size → LeavesByteBy y x)
      → k ≡ lamport → (y : ℕ) → r.slots ≤ y → y < r.slots + 4 * r.size → IsOnlyWriter r.sender y after
  alone-left x does left of_kind y from below =
      (byte-kept B o now e even can r.sender y (subst (LeavesByteBy y) (sym does) (left y from below)) (c.alone of_kind y from below)).1

  alone-mine : hart_of e ≡ r.sender → k ≡ lamport → (y : ℕ) → r.slots ≤ y → y < r.slots + 4 * r.size → IsOnlyWriter r.sender y after
  alone-mine mine of_kind y from below =
      subst (λ h. IsOnlyWriter h y after) mine (only-own now e even y (subst (λ h. IsOnlyWriter h y now) (sym mine) (c.alone of_kind y from below)))

  -- an access that writes nothing to the block
  still : (x : Access) → access_of e ≡ x → WritesNothingTo r x → (p : SenderState) (q : ReceiverState) → Holds (slice_index F) s.taken q
      → Next (record s { sending = p; receiving = q })
  still x does off p q holds = record {
    sent = c.sent;
    received = c.received;
    holds = holds;
    nonzero = c.nonzero;
    alone = alone-left x does (λ y from below. off_leaves_by r x y off (omega (arith, from, is.slots_above)) (omega (arith, below, is.slots_below)));
    words = λ j from below. kept-on x does j (λ y low high. (let word = slot_word r is j in
        off_leaves_by r x y off (omega (arith, low, word.above)) (omega (arith, high, word.below)))) (c.words j from below);
  }

  -- ---- loads of the receiver

  takes : (a v : ℕ) → v ≡ read o now r.receiver a 4 → (q : ReceiverState) → s.receiving ≡ q → (K : Kind) → k ≡ K → Holds (slice_index F) s.taken q
      → Holds (slice_index F) s.taken (receive_look K r a v q)
  takes a v is_read (asked u) was lamport of_kind holds =
      by-test (λ t. Holds (slice_index F) s.taken (if t then (if v == u then asked u else waiting u) else asked u)) a r.head
      (λ here. by-test (λ t. Holds (slice_index F) s.taken (if t then asked u else waiting u)) v u (λ level. tt) (λ apart. tt)) (λ away. tt)
  takes a v is_read (asked u) was fastforward of_kind holds =
      by-test (λ t. Holds (slice_index F) s.taken (if t then (if v == 0 then asked u else holding u v) else asked u)) a (r.slots + u)
      (λ here. by-test (λ t. Holds (slice_index F) s.taken (if t then asked u else holding u v)) v 0 (λ level. tt) (λ apart.
      (let read_there : v ≡ read o now r.receiver (r.slots + u) 4 = is_read ∙ ap (λ x. read o now r.receiver x 4) here in
      let level : s.taken ≡ s.consumed = subst (Taking fastforward s.taken s.consumed) was
      (subst (λ t. Taking t s.taken s.consumed s.receiving) of_kind at.taking) in
      let place : u ≡ slot_offset r s.consumed = subst (IsAsked r s.consumed) was at.asked_at in
      let more : s.taken < at.there = at.found of_kind u v was read_there (ne_eqb v 0 apart) in
      read_there ∙ ap (λ x. read o now r.receiver (r.slots + x) 4) (place ∙ ap (slot_offset r) (sym level))
      ∙ word-there B k r (slice_index F) o b d now s at c legal s.taken (omega arith) more))) (λ away. tt)
  takes a v is_read (waiting u) was K of_kind holds =
      by-test (λ t. Holds (slice_index F) s.taken (if t then holding u v else waiting u)) a (r.slots + u) (λ here.
      (let level : s.taken ≡ s.consumed = waits K (subst (Taking K s.taken s.consumed) was
      (subst (λ t. Taking t s.taken s.consumed s.receiving) of_kind at.taking)) in
      let place : u ≡ slot_offset r s.consumed = subst (IsAsked r s.consumed) was at.asked_at in
      let known : s.taken + 1 ≤ at.there = subst (λ q. s.taken + known_by_state q ≤ at.there) was at.known_there in
      is_read ∙ ap (λ x. read o now r.receiver x 4) (here ∙ ap (λ x. r.slots + x) (place ∙ ap (slot_offset r) (sym level)))
      ∙ word-there B k r (slice_index F) o b d now s at c legal s.taken (omega arith) (omega (arith, known)))) (λ away. tt)
    where
      waits : (K : Kind) → Taking K s.taken s.consumed (waiting u) → s.taken ≡ s.consumed
      waits lamport h = h
      waits fastforward h = h
  takes a v is_read idle was K of_kind holds = tt
  takes a v is_read (holding u w) was K of_kind holds = holds
  takes a v is_read (cleared u) was K of_kind holds = tt

  receiver-loads : (a v : ℕ) → access_of e ≡ load a 4 v → v ≡ read o now r.receiver a 4 → Next (record s { receiving = receive_load k r a v s.receiving })
  receiver-loads a v does is_read = still (load a 4 v) does tt s.sending (receive_load k r a v s.receiving)
      (by-receive-load k r a v (Holds (slice_index F) s.taken) s.receiving (λ whole here. tt) (takes a v is_read s.receiving refl k refl c.holds))

  -- ---- stores

  -- a store of a word off the slots
  off-slots : (w : Write) (a : ℕ) → access_of e ≡ store w → IsWordAt w a → (a + 4 ≤ r.slots) ⊎ (r.slots + 4 * r.size ≤ a) → (j : ℕ) → s.taken ≤ j → j < s.stored
      → Kept k r (slice_index F) o b (now ++ e ∷ []) j
  off-slots w a does word apart j from below = kept-on (store w) does j (past w a (slot_address r j) word (slot_off r is a j apart)) (c.words j from below)

  off-alone : (w : Write) (a : ℕ) → access_of e ≡ store w → IsWordAt w a → (a + 4 ≤ r.slots) ⊎ (r.slots + 4 * r.size ≤ a)
      → k ≡ lamport → (y : ℕ) → r.slots ≤ y → y < r.slots + 4 * r.size → IsOnlyWriter r.sender y after
  off-alone w a does word apart = alone-left (store w) does (λ y from below. past-byte w a y word (elim apart [
    | inl l ↦ inl (omega (arith, l, from))
    | inr l ↦ inr (omega (arith, l, below))
  ]))

  sender-stores : (w : Write) (p : SenderState) → access_of e ≡ store w → hart_of e ≡ r.sender → s.sending ≡ p → IsSenderStore k r p w
      → (more : List ℕ) × (F ≡ (send_store w p s).sent ++ more) → Next (send_store w p s)
  sender-stores w (renewing u v) does mine was made ahead = by r.copy refl made
    where
      by : (q : Option ℕ) → r.copy ≡ q → IsCopyStore q v w → Next (record s { sending = roomy u })
      by None some made = absurd made
      by (Some x) some made = record {
        sent = c.sent;
        received = c.received;
        holds = c.holds;
        nonzero = c.nonzero;
        alone = alone-mine mine;
        words = off-slots w x does made.0 (is.copy x some).apart;
      }
  sender-stores w (filled u) does mine was made ahead = record {
    sent = c.sent;
    received = c.received;
    holds = c.holds;
    nonzero = c.nonzero;
    alone = alone-mine mine;
    words = off-slots w r.head does made.0 is.head_apart;
  }
  sender-stores w (roomy u) does mine was made ahead = record {
    sent = ap (λ ws. ws ++ w.value ∷ []) c.sent ∙ ap (λ v. firsts L s.stored ++ v ∷ []) value ∙ ap (firsts L) one_more;
    received = c.received;
    holds = c.holds;
    nonzero = λ same j below. elim (cases_eq j s.stored) [
      | inl last ↦ λ none. some_word k w.value made.2 same (value ∙ ap L (sym last) ∙ none)
      | inr other ↦ c.nonzero same j (omega (arith, below, other))
    ];
    alone = alone-mine mine;
    words = λ j from below. elim (cases_eq j s.stored) [
      | inl last ↦ subst (Kept k r (slice_index F) o b (now ++ e ∷ [])) (sym last) new
      | inr other ↦ kept-on (store w) does j (past w (slot_address r s.stored) (slot_address r j) word (elim (slots_apart r is j s.stored
          (omega (arith, below, other)) (omega (arith, from, fits, ready))) [
            | inl l ↦ inr l
            | inr l ↦ inl l
          ])) (c.words j from (omega (arith, below, other)))
    ];
  }
    where
      place : (s.stored ≡ s.published) × (u ≡ slot_offset r s.published)
      place = subst (IsPlaced r s.stored s.published) was at.placed_at

      ready : ready_by_state s.sending ≡ 1
      ready = ap ready_by_state was

      one_more : suc s.stored ≡ s.stored + 1
      one_more = omega arith

      word : IsWordAt w (slot_address r s.stored)
      word = record { place = made.0.place ∙ ap (λ x. r.slots + x) (place.1 ∙ ap (slot_offset r) (sym place.0)); width = made.0.width }

      value : w.value ≡ L s.stored
      value = word_ahead F s.sent ahead.0 w.value s.stored (ap length c.sent ∙ length-firsts L s.stored) ahead.1

      some_word : (K : Kind) (v : ℕ) → IsSendable K v → K ≡ fastforward → v ≢ 0
      some_word lamport v some same = absurd (cc)
      some_word fastforward v some same = some

      all_available : (K : Kind) → available_of K s ≡ s.stored
      all_available lamport = sym place.0
      all_available fastforward = refl

      alone_there : (K : Kind) → k ≡ K → IsAloneAt r.sender (slot_address r s.stored) now
      alone_there lamport of_kind x from below = c.alone of_kind x (omega (arith, from)) (omega (arith, below, slot_inside))
        where
          slot_inside : slot_offset r s.stored + 4 ≤ 4 * r.size
          slot_inside = offset_low r is s.stored
      alone_there fastforward of_kind x from below = at.alone of_kind u was x from below

      stored_own : own_stores r.sender (now ++ e ∷ []) ≡ own_stores r.sender now ++ w ∷ []
      stored_own = stores-append r.sender now (e ∷ []) ∙ ap (λ ws. own_stores r.sender now ++ ws)
          (append-nil (own_store r.sender e) ∙ ap (stored_by (hart_of e == r.sender)) does
          ∙ ap (λ t. if t then w ∷ [] else []) (eq-eqb (hart_of e) r.sender mine))

      new : Kept k r (slice_index F) o b (now ++ e ∷ []) s.stored
      new = record {
        front = now ++ e ∷ [];
        back = [];
        is = sym (append-nil (now ++ e ∷ []));
        own = subst (Own r.sender o (now ++ e ∷ []) (slot_address r s.stored)) value
            (own-stored now e even o w does r.sender (slot_address r s.stored) mine word made.1 (alone_there k refl));
        leaves = λ y from below. tt;
        since = inr (own_stores r.sender now, w, stored_own, omega (arith, c.mine, all_available k));
      }
  sender-stores w p does mine was made ahead = absurd made

  one_received : (u v : ℕ) → s.receiving ≡ holding u v → s.received ++ v ∷ [] ≡ firsts L (s.taken + 1)
  one_received u v was = grind (arith, slice_index, firsts)

  receiver-stores : (w : Write) (q : ReceiverState) (K : Kind) → k ≡ K → access_of e ≡ store w → s.receiving ≡ q → IsReceiverStore K r q w
      → Next (receive_store K q s)
  receiver-stores w (holding u v) lamport of_kind does was made = record {
    sent = c.sent;
    received = one_received u v was;
    holds = tt;
    nonzero = c.nonzero;
    alone = off-alone w r.tail does made.0 is.tail_apart;
    words = λ j from below. off-slots w r.tail does made.0 is.tail_apart j (omega (arith, from)) below;
  }
  receiver-stores w (holding u v) fastforward of_kind does was made = record {
    sent = c.sent;
    received = one_received u v was;
    holds = tt;
    nonzero = c.nonzero;
    alone = λ same. absurd (let no : lamport ≡ fastforward = sym same ∙ of_kind in cc);
    words = λ j from below. kept-on (store w) does j (past w (slot_address r s.taken) (slot_address r j) word
        (slots_apart r is s.taken j (omega (arith, from)) (omega (arith, below, fits)))) (c.words j (omega (arith, from)) below);
  }
    where
      level : s.taken ≡ s.consumed
      level = subst (Taking fastforward s.taken s.consumed) was (subst (λ t. Taking t s.taken s.consumed s.receiving) of_kind at.taking)

      place : u ≡ slot_offset r s.consumed
      place = subst (IsAsked r s.consumed) was at.asked_at

      word : IsWordAt w (slot_address r s.taken)
      word = record { place = made.0.place ∙ ap (λ x. r.slots + x) (place ∙ ap (slot_offset r) (sym level)); width = made.0.width }
  receiver-stores w (cleared u) lamport of_kind does was made =
      absurd (subst (Taking lamport s.taken s.consumed) was (subst (λ t. Taking t s.taken s.consumed s.receiving) of_kind at.taking))
  receiver-stores w (cleared u) fastforward of_kind does was made = record {
    sent = c.sent;
    received = c.received;
    holds = tt;
    nonzero = c.nonzero;
    alone = off-alone w r.tail does made.0 is.tail_apart;
    words = off-slots w r.tail does made.0 is.tail_apart;
  }
  receiver-stores w q K of_kind does was made = absurd made

  stored-next : KeepsProtocolBy k r (role_of r (hart_of e)) s (access_of e)
      → (more : List ℕ) × (F ≡ (next_by k r (role_of r (hart_of e)) s (access_of e)).sent ++ more)
      → Next (next_by k r (role_of r (hart_of e)) s (access_of e))
  stored-next keeps = by-access k r s (hart_of e) (λ t x z. access_of e ≡ x → AllowedBy B (pending (hart_of e) now) (read o now (hart_of e)) x
      → (more : List ℕ) × (F ≡ z.sent ++ more) → Next z)
      (λ t x off does allowed ahead. still x does off s.sending s.receiving c.holds)
      (λ mine a v does allowed ahead. still (load a 4 v) does tt (send_load k r a v s.sending) s.receiving c.holds)
      (λ mine a v does allowed ahead. receiver-loads a v does (allowed ∙ ap (λ h. read o now h a 4) mine))
      (λ mine w on made does allowed ahead. sender-stores w s.sending does mine refl made ahead)
      (λ mine w on made does allowed ahead. receiver-stores w s.receiving k refl does refl made)
      (access_of e) keeps refl can

  pub content-next : KeepsProtocolBy k r (role_of r (hart_of e)) s (access_of e)
      → (more : List ℕ) × (F ≡ (next_by k r (role_of r (hart_of e)) s (access_of e)).sent ++ more)
      → Content k r (slice_index F) o b d (now ++ e ∷ []) (next_by k r (role_of r (hart_of e)) s (access_of e))
  content-next keeps ahead = record {
    contents = stored-next keeps ahead;
    mine = omega (arith, c.mine, counted k r is kind s e keeps at.placed_at, number-last (publishes_to k r) r.sender now e);
    theirs = omega (arith, c.theirs, counted-released k r is kind s e keeps at.asked_at at.taking, number-last (releases_to k r) r.receiver now e);
  }
