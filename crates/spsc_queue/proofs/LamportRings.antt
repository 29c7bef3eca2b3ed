-- Each entry that keeps Lamport's protocol, also of a sender that keeps a copy of the tail, keeps the protocol of ownership.
use Rattle.spsc_queue.proofs.Common.{ℕ, ◌+◌, ◌-◌, ◌*◌, ◌%◌, ◌<◌, ◌≤◌, ◌≡◌, ◌≢◌, ◌==◌, ◌&&◌, ◌⊎◌, inl, inr, Bool, false, if◌then◌else◌, List, [], ◌∷◌, ◌++◌}
use Rattle.spsc_queue.proofs.Common.{length, Option, Some, None, refl, sym, ◌∙◌, ap, arith, cases_lt, eq-eqb, nat_tests, Write, write, covers-from, Entry}
use Rattle.spsc_queue.proofs.Common.{OpeningValue, Access, load, store, exchange, access_of, hart_of, own_store, pending, memory_byte, read, own_stores, lands}
use Rattle.spsc_queue.proofs.Common.{write_of, AllowedBy, Allowed, other, QueueCounts, count, lamport, RingBuffer, IsRingBuffer, slot_offset, slot_address}
use Rattle.spsc_queue.proofs.Common.{next, overlaps, SenderState, renewing, roomy, filled, ReceiverState, idle, asked, waiting, holding, cleared, ProtocolState}
use Rattle.spsc_queue.proofs.Common.{role_of, send_load, send_store, receive_look, receive_load, receive_store, next_by, WritesNothingTo, IsWordAt, IsCopyStore}
use Rattle.spsc_queue.proofs.Common.{IsSenderStore, IsReceiverStore, KeepsProtocolBy, ready_by_state}
use Rattle.queue_parties.specs.Parties.{Party, the_sender, the_receiver, with_known, known}
use Rattle.queue_parties.proofs.Parties.{harts-apart, count-set, Grows}
use Rattle.spsc_queue.proofs.Cases.{chosen, by-test, by-access, by-receive-load}
use Rattle.spsc_queue.proofs.Offsets.{next_offset, slot_word}
use Rattle.spsc_queue.proofs.Counts.{Steady, steady-next, number_of, party-is, store-of}
use Rattle.spsc_queue.proofs.Copies.{Copied, CopyStays, copied-on, copied-more, off_leave, word_leave, copied-anew}
use Rattle.spsc_queue.proofs.Loads.{SendingIs, sending-more, knows-more}
use Rattle.slot_queue.specs.Queues.{Queue, index_word, least_count, IsQueue, KeepsOff}
use Rattle.slot_queue.specs.Ownership.{party_of, hart, index, end, moved, after_load, after_store, after_access, counts_next, FillsOwned, MayStore, KeepsAccess}
use Rattle.slot_queue.specs.Laws.{moved_on}
use Rattle.slot_queue.proofs.Codes.{least-near}
use Rattle.slot_queue.proofs.Sides.{Side, moved-leaves, moved-index, fills-leaves}
use Rattle.slot_queue.proofs.Runs.{others-unmoved}
use Rattle.slot_queue.proofs.Looks.{bounds, Bounds, found, reads-other}
use Rattle.slot_queue.proofs.Owned.{grows-access, loaded-count, grows-load}
use Rattle.slot_queue.proofs.OwnIndex.{reads-through}
use Rattle.spsc_queue.specs.Instances.{queue_of}

pub is_queue : (r : RingBuffer) → IsRingBuffer r → IsQueue (queue_of r)
is_queue r is = record {
  parties = is.parties;
  apart = words_apart;
  head_apart = elim is.head_apart [
    | inl l ↦ inl l
    | inr l ↦ inr (omega (arith, l))
  ];
  tail_apart = elim is.tail_apart [
    | inl l ↦ inl l
    | inr l ↦ inr (omega (arith, l))
  ];
  some = is.some_slots;
  fits = omega arith;
  words = is.some_slots;
  scale = omega arith;
  some_bytes = omega arith;
  small = omega (arith, is.small, is.some_slots);
}
  where
    words_apart : (r.head + 4 ≤ r.tail) ⊎ (r.tail + 4 ≤ r.head)
    words_apart = grind (arith, cases_lt)

-- an index's word is the offset of a slot
pub offset-word : (r : RingBuffer) (n j : ℕ) → n ≡ r.start + j → slot_offset r j ≡ index_word (queue_of r) n
offset-word r n j at = (let same : r.start + j ≡ n + 0 = omega (arith, at) in ap (λ k. 4 * (k % r.size)) same)
    ∙ (let none : 4 * ((n + 0) % r.size) ≡ 0 + 4 * ((n + 0) % r.size) = omega arith in none)

-- how many slots the sender knows to be freed, of those since the run began
abbrev pub freed_known : RingBuffer → QueueCounts → ℕ
freed_known r c = c.known_taken - r.start

-- the receiver's place, where it took n words and knows of k, and a word more that it knows of
abbrev pub Receiving : RingBuffer → (n k : ℕ) → ReceiverState → Type 0
Receiving r n k idle = Unit {0}
Receiving r n k (asked u) = u ≡ slot_offset r n
Receiving r n k (waiting u) = (u ≡ slot_offset r n) × (n < k)
Receiving r n k (holding u w) = (u ≡ slot_offset r n) × (n < k)
Receiving r n k (cleared u) = ⊥

receiving-more : (r : RingBuffer) (n k l : ℕ) (p : ReceiverState) → k ≤ l → Receiving r n k p → Receiving r n l p
receiving-more r n k l (waiting u) le h = (h.0, omega (arith, le, h.1))
receiving-more r n k l (holding u w) le h = (h.0, omega (arith, le, h.1))
receiving-more r n k l p le h = h

-- the state of the protocol, in which n words are stored, m published and k taken, agrees with the counts
pub record Numbers (r : RingBuffer) (c : QueueCounts) (n m k : ℕ) : Type 0 where
  pub published : c.published ≡ r.start + m
  pub taken : c.taken ≡ r.start + k
  pub begun : r.start ≤ c.known_taken
  pub room : n + 1 ≤ freed_known r c + r.size

pub record Agrees (r : RingBuffer) (o : OpeningValue) (es : List Entry) (c : QueueCounts) (s : ProtocolState) : Type 0 where
  pub numbers : Numbers r c s.stored s.published s.taken
  pub open numbers use *
  pub sending : SendingIs r s.stored s.published (freed_known r c) s.sending
  pub copied : Copied lamport r.copy r o es (s.stored + ready_by_state s.sending) (freed_known r c)
  pub receiving : Receiving r s.taken (c.known_published - r.start) s.receiving
  pub level : s.taken ≡ s.consumed

-- the copy is off the queue
copy-keeps : (r : RingBuffer) (is : IsRingBuffer r) (w : Write) (a : ℕ) → r.copy ≡ Some a → IsWordAt w a → KeepsOff (queue_of r) w
copy-keeps r is w a some at x on =
    let part = covers-from w x on in
    record {
      head = λ h. elim (is.head.no_copy a some) [
        | inl l ↦ omega (arith, l, h.0, h.1, part.0, part.1, at.place, at.width)
        | inr l ↦ omega (arith, l, h.0, h.1, part.0, part.1, at.place, at.width)
      ];
      tail = λ h. elim (is.tail.no_copy a some) [
        | inl l ↦ omega (arith, l, h.0, h.1, part.0, part.1, at.place, at.width)
        | inr l ↦ omega (arith, l, h.0, h.1, part.0, part.1, at.place, at.width)
      ];
      slots = λ h. elim (is.copy a some).apart [
        | inl l ↦ omega (arith, l, h.0, h.1, part.0, part.1, at.place, at.width)
        | inr l ↦ omega (arith, l, h.0, h.1, part.0, part.1, at.place, at.width)
      ];
    }

-- what is off the block is off the queue
pub off-keeps : (r : RingBuffer) (is : IsRingBuffer r) (w : Write) → overlaps r w ≡ false → KeepsOff (queue_of r) w
off-keeps r is w off x on = record {
  head = λ at. outside (omega (arith, at.0, is.head.above)) (omega (arith, at.1, is.head.below));
  tail = λ at. outside (omega (arith, at.0, is.tail.above)) (omega (arith, at.1, is.tail.below));
  slots = λ at. outside (omega (arith, at.0, is.slots_above)) (omega (arith, at.1, is.slots_below));
}
  where
    part : (w.addr ≤ x) × (x < w.addr + w.width)
    part = covers-from w x on

    outside : r.first ≤ x → x < r.end → ⊥
    outside from below = grind (arith, nat_tests, off, part.0, part.1)

-- ---- where the counts stay

module _ (r : RingBuffer) (is : IsRingBuffer r) (o : OpeningValue) (es : List Entry) (s : ProtocolState) (c : QueueCounts) (holds : Agrees r o es c s) where
  -- the parties may know more
  stays : (d : QueueCounts) → d.published ≡ c.published → d.taken ≡ c.taken → Grows c d → Agrees r o es d s
  stays d one two grows =
      let more : c.known_taken ≤ d.known_taken = grows.knows the_sender in
      let heard : c.known_published ≤ d.known_published = grows.knows the_receiver in
      record {
        numbers = record {
          published = one ∙ holds.published;
          taken = two ∙ holds.taken;
          begun = omega (arith, holds.begun, more);
          room = omega (arith, holds.room, more);
        };
        sending = sending-more r s.stored s.published (freed_known r c) (freed_known r d) s.sending (omega (arith, more)) holds.sending;
        copied = copied-more lamport r.copy r o es (s.stored + ready_by_state s.sending) (freed_known r c)
            (s.stored + ready_by_state s.sending) (freed_known r d) (omega arith) (omega (arith, more)) holds.copied;
        receiving = receiving-more r s.taken (c.known_published - r.start) (d.known_published - r.start) s.receiving (omega (arith, heard)) holds.receiving;
        level = holds.level;
      }

  loaded : (p : Party) (a width v : ℕ) → Agrees r o es (after_load (queue_of r) p a width v c) s
  loaded p a width v = stays (after_load (queue_of r) p a width v c) (loaded-count (queue_of r) (is_queue r is) the_sender p a width v c)
      (loaded-count (queue_of r) (is_queue r is) the_receiver p a width v c) (grows-load (queue_of r) p a width v c)

  same-count : (p : Party) (w : Write) → FillsOwned (queue_of r) p c w → count p (after_store (queue_of r) p w c) ≡ count p c
  same-count p w fills = count-set p (moved (queue_of r) p (count p c) w) c
      ∙ moved-leaves (queue_of r) (is_queue r is) p (count p c) w (fills-leaves (queue_of r) (is_queue r is) p p c w fills)

  stored : (p : Party) (w : Write) → FillsOwned (queue_of r) p c w → Agrees r o es (after_store (queue_of r) p w c) s
  stored the_sender w fills = stays (after_store (queue_of r) the_sender w c) (same-count the_sender w fills) refl
      (grows-access (queue_of r) (Some the_sender) (store w) c)
  stored the_receiver w fills = stays (after_store (queue_of r) the_receiver w c) refl (same-count the_receiver w fills)
      (grows-access (queue_of r) (Some the_receiver) (store w) c)

  -- an entry that leaves the copy
  pub onward : (e : Entry) → CopyStays r o es (es ++ e ∷ []) → Agrees r o (es ++ e ∷ []) c s
  onward e copy = record {
    numbers = holds.numbers;
    sending = holds.sending;
    copied = copied-on r.copy r o es (es ++ e ∷ []) (s.stored + ready_by_state s.sending) (freed_known r c) refl copy holds.copied;
    receiving = holds.receiving;
    level = holds.level;
  }

-- ---- one entry

module _ (B : ℕ) (r : RingBuffer) (is : IsRingBuffer r) (o : OpeningValue) (es : List Entry) (c : QueueCounts) (m : Party → ℕ)
    (sides : (p : Party) → Side (queue_of r) o es c p (m p)) (s : ProtocolState) (holds : Agrees r o es c s) (e : Entry)
    (even : (h : ℕ) → lands h es ≤ length (own_stores h es)) (can : Allowed B o es e) where
  abbrev q : Queue
  q = queue_of r

  abbrev after : List Entry
  after = es ++ e ∷ []

  queue : IsQueue q
  queue = is_queue r is

  low : Bounds q c the_sender (m the_sender)
  low = bounds q o es c the_sender (m the_sender) (sides the_sender)

  high : Bounds q c the_receiver (m the_receiver)
  high = bounds q o es c the_receiver (m the_receiver) (sides the_receiver)

  reads-own : (p : Party) → read o es (hart q p) (index q p) 4 ≡ index_word q (count p c)
  reads-own p = reads-through q queue p (memory_byte o es) (m p) (pending (hart q p) es) (sides p).own (sides p).word ∙ ap (index_word q) (sides p).count_is

  -- a load of the other's index
  looked : (p : Party) (a v : ℕ) → v ≡ read o es (hart q p) a 4 → a ≡ index q (other p)
      → (after_load q p a 4 v c ≡ with_known p (m (other p)) c) × (v ≡ index_word q (m (other p)))
  looked p a v is_read here =
      let word : v ≡ index_word q (m (other p)) = is_read ∙ ap (λ x. read o es (hart q p) x 4) here
      ∙ reads-other q o es c (other p) (m (other p)) (sides (other p)) (hart q p) (harts-apart q.sender q.receiver queue.parties p) in (
        ap (λ b. if b && (4 == 4) then with_known p (least_count q (known p c) v) c else c) (eq-eqb a (index q (other p)) here)
            ∙ ap (λ k. with_known p k c) (ap (least_count q (known p c)) word ∙ found q queue o es c m sides p (omega (arith, is.some_slots))),
        word,
      )

  -- ---- loads

  sender-loads : (a v : ℕ) → v ≡ read o es r.sender a 4
      → Agrees r o es (after_load q the_sender a 4 v c) (record s { sending = send_load lamport r a v s.sending })
  sender-loads a v is_read = record {
    numbers = old.numbers;
    sending = knows.0;
    copied = knows.1;
    receiving = old.receiving;
    level = old.level;
  }
    where
      d : QueueCounts
      d = after_load q the_sender a 4 v c

      old : Agrees r o es d s
      old = loaded r is o es s c holds the_sender a 4 v

      more : c.known_taken ≤ d.known_taken
      more = (grows-load q the_sender a 4 v c).knows the_sender

      begun : r.start ≤ m the_receiver
      begun = omega (arith, holds.begun, high.known_there)

      knows : SendingIs r s.stored s.published (freed_known r d) (send_load lamport r a v s.sending)
          × Copied lamport r.copy r o es (s.stored + ready_by_state (send_load lamport r a v s.sending)) (freed_known r d)
      knows = knows-more r is o es s.stored s.published (freed_known r c) (freed_known r d) (m the_receiver - r.start) a v is_read
          (reads-own the_sender ∙ sym (offset-word r c.published s.published holds.published))
          (λ here.
          (let says = looked the_sender a v is_read here in (
            ap (λ (x : QueueCounts). freed_known r x) says.0,
            says.1 ∙ sym (offset-word r (m the_receiver) (m the_receiver - r.start) (omega (arith, begun))),
          )))
          (omega (arith, more)) (omega (arith, holds.room, high.known_there)) s.sending (holds.sending, holds.copied)

  receiver-loads : (a v : ℕ) → v ≡ read o es r.receiver a 4
      → Agrees r o es (after_load q the_receiver a 4 v c) (record s { receiving = receive_load lamport r a v s.receiving })
  receiver-loads a v is_read = record {
    numbers = old.numbers;
    sending = old.sending;
    copied = old.copied;
    receiving = by-receive-load lamport r a v Has s.receiving (λ whole here.
        is_read ∙ ap (λ x. read o es r.receiver x 4) here ∙ reads-own the_receiver ∙ sym (offset-word r c.taken s.taken holds.taken))
        (look s.receiving holds.receiving);
    level = old.level;
  }
    where
      d : QueueCounts
      d = after_load q the_receiver a 4 v c

      old : Agrees r o es d s
      old = loaded r is o es s c holds the_receiver a 4 v

      Had : ReceiverState → Type 0
      Had p = Receiving r s.taken (c.known_published - r.start) p

      Has : ReceiverState → Type 0
      Has p = Receiving r s.taken (d.known_published - r.start) p

      same : (p : ReceiverState) → Had p → Has p
      same p h = let more : c.known_published ≤ d.known_published = (grows-load q the_receiver a 4 v c).knows the_receiver in
          receiving-more r s.taken (c.known_published - r.start) (d.known_published - r.start) p (omega (arith, more)) h

      -- the head is another than its own place
      there : (u : ℕ) → a ≡ r.head → v ≢ u → Had (asked u) → Has (waiting u)
      there u here apart h =
          let says = looked the_receiver a v is_read here in
          let some : c.taken ≢ m the_sender = λ x. apart (says.1 ∙ ap (index_word q) (sym x) ∙ sym (offset-word r c.taken s.taken holds.taken) ∙ sym h) in
          let knows : d.known_published ≡ m the_sender = ap (λ (x : QueueCounts). x.known_published) says.0 in
          (h, omega (arith, some, knows, holds.taken, high.count_end, low.known_there))

      look : (p : ReceiverState) → Had p → Has (receive_look lamport r a v p)
      look (asked u) h = by-test (λ b. Has (if b then (if v == u then asked u else waiting u) else asked u)) a r.head
          (λ here. by-test (λ b. Has (if b then asked u else waiting u)) v u (λ level. same (asked u) h) (λ apart. there u here apart h))
          (λ away. same (asked u) h)
      look (waiting u) h = chosen Has (a == r.slots + u) (holding u v) (waiting u) (same (holding u v) h) (same (waiting u) h)
      look idle h = tt
      look (holding u w) h = same (holding u w) h
      look (cleared u) h = absurd h

  -- ---- stores

  -- the party moves its index on by one, from its place after word j
  moves-one : (p : Party) (w : Write) (u j : ℕ) → IsWordAt w (index q p) → w.value ≡ next r u → u ≡ slot_offset r j → count p c ≡ r.start + j
      → count p c < end q p c → MayStore q p c w × (count p (after_store q p w c) ≡ count p c + 1)
  moves-one p w u j at value stands from room =
      let word : w.value ≡ index_word q (count p c + 1) =
      value ∙ next_offset r is u j stands ∙ offset-word r (count p c + 1) (j + 1) (omega (arith, from)) in
      let two_slots : 1 < r.size = big p room in
      let to : least_count q (count p c) w.value ≡ count p c + 1 = ap (least_count q (count p c)) word
      ∙ least-near q queue (count p c) (count p c + 1) (omega arith) (omega (arith, two_slots)) in (
        inl (record { place = at.place; width = at.width; word = word ∙ ap (index_word q) (sym to); owned = omega (arith, to, room) }),
        count-set p (moved q p (count p c) w) c
            ∙ moved-index q p (count p c) w (record { place = at.place; width = at.width; of = count p c + 1; word = word }) ∙ to,
      )
    where
      big : (p : Party) → count p c < end q p c → 1 < r.size
      big the_sender room = omega (arith, room, low.known_there, low.there, high.known_there, high.there, high.count_end)
      big the_receiver room = omega (arith, room, low.known_there, low.there, low.count_end, high.known_there, high.there)

  off-fills : (p : Party) (d : QueueCounts) (w : Write) → overlaps r w ≡ false → FillsOwned q p d w
  off-fills p d w off x on = inl (off-keeps r is w off x on)

  -- a word into the sender's slot
  fills-slot : (w : Write) (u : ℕ) → IsWordAt w (r.slots + u) → u ≡ slot_offset r s.published → c.published < end q the_sender c → FillsOwned q the_sender c w
  fills-slot w u at stands before x on =
      let part = covers-from w x on in
      let here : u ≡ 4 * (c.published % r.size) = stands ∙ ap (λ k. 4 * (k % r.size)) (sym holds.published) in
      inr (record {
        position = c.published;
        from = omega arith;
        before = before;
        byte = (omega (arith, part.0, at.place, here), omega (arith, part.1, at.place, at.width, here));
      })

  -- an access that writes nothing to the block
  quiet : (t : Option Party) (x : Access) → access_of e ≡ x → WritesNothingTo r x → KeepsAccess q t c x × Agrees r o after (after_access q t x c) s
  quiet t x does off = (may t x off, onward r is o es s (after_access q t x c) (same t x off) e (off_leave B r is o es e even can x does off))
    where
      may : (t : Option Party) (x : Access) → WritesNothingTo r x → KeepsAccess q t c x
      may (Some p) (store w) off = inr (off-fills p c w off)
      may (Some p) (exchange a old new) off = inr (inr (off-fills p (after_load q p a 4 old c) (write a 4 new) off))
      may None (store w) off = off-keeps r is w off
      may None (exchange a old new) off = inr (off-keeps r is (write a 4 new) off)
      may t x off = tt

      same : (t : Option Party) (x : Access) → WritesNothingTo r x → Agrees r o es (after_access q t x c) s
      same (Some p) (load a width v) off = loaded r is o es s c holds p a width v
      same (Some p) (store w) off = stored r is o es s c holds p w (off-fills p c w off)
      same (Some p) (exchange a old new) off =
          let looks : QueueCounts = after_load q p a 4 old c in
          stored r is o es s looks (loaded r is o es s c holds p a 4 old) p (write a 4 new) (off-fills p looks (write a 4 new) off)
      same t x off = holds

  abbrev Kept : Party → Write → ProtocolState → Type 0
  Kept p w t = MayStore q p c w × Agrees r o after (after_store q p w c) t

  sender-stores : (w : Write) (p : SenderState) → access_of e ≡ store w → hart_of e ≡ r.sender → s.sending ≡ p
      → SendingIs r s.stored s.published (freed_known r c) p → IsSenderStore lamport r p w → Kept the_sender w (send_store w p s)
  sender-stores w (renewing u v) does mine at h keeps = by r.copy refl keeps
    where
      by : (t : Option ℕ) → r.copy ≡ t → IsCopyStore t v w → Kept the_sender w (send_store w (renewing u v) s)
      by None none keeps = absurd keeps
      by (Some a) some keeps =
          let fills : FillsOwned q the_sender c w = λ x on. inl (copy-keeps r is w a some keeps.0 x on) in
          let old : Agrees r o es (after_store q the_sender w c) s = stored r is o es s c holds the_sender w fills in (
            inr fills,
            record {
              numbers = old.numbers;
              sending = (h.0, h.1, omega (arith, h.2.2, h.2.3));
              copied = copied-anew r is o es e even w does mine a some keeps.0 (s.stored + ready_by_state s.sending) (freed_known r c) (s.stored + 1)
                  (freed_known r c) h.2.0 holds.copied (keeps.1 ∙ h.2.1) (omega (arith, h.2.2)) h.2.3;
              receiving = old.receiving;
              level = old.level;
            },
          )
  sender-stores w (roomy u) does mine at h keeps =
      let word : IsWordAt w (slot_address r s.published) = record { place = keeps.0.place ∙ ap (λ x. r.slots + x) h.1; width = keeps.0.width } in
      let fills : FillsOwned q the_sender c w =
      fills-slot w u keeps.0 h.1 (omega (arith, h.0, h.2, holds.published, holds.begun)) in
      let old : Agrees r o es (after_store q the_sender w c) s = stored r is o es s c holds the_sender w fills in
      let ready : ready_by_state s.sending ≡ 1 = ap ready_by_state at in (
        inr fills,
        onward r is o es (send_store w (roomy u) s) (after_store q the_sender w c) (record {
          numbers = record { published = old.published; taken = old.taken; begun = old.begun; room = omega (arith, h.2) };
          sending = (omega (arith, h.0), h.1);
          copied = copied-more lamport r.copy r o es (s.stored + ready_by_state s.sending) (freed_known r c)
              (s.stored + 1 + 0) (freed_known r c) (omega (arith, ready)) (omega arith) holds.copied;
          receiving = old.receiving;
          level = old.level;
        }) e (word_leave B r is o es e even can w (slot_address r s.published) does (slot_word r is s.published) word),
      )
  sender-stores w (filled u) does mine at h keeps =
      let one = moves-one the_sender w u s.published keeps.0 keeps.1 h.1 holds.published
      (omega (arith, h.0, holds.room, holds.published, holds.begun)) in
      let count : (after_store q the_sender w c).published ≡ c.published + 1 = one.1 in (
        one.0,
        onward r is o es (send_store w (filled u) s) (after_store q the_sender w c) (record {
          numbers = record { published = omega (arith, count, holds.published); taken = holds.taken; begun = holds.begun; room = holds.room };
          sending = h.0;
          copied = copied-more lamport r.copy r o es (s.stored + ready_by_state s.sending) (freed_known r c)
              (s.stored + 0) (freed_known r c) (omega arith) (omega arith) holds.copied;
          receiving = holds.receiving;
          level = holds.level;
        }) e (word_leave B r is o es e even can w r.head does is.head keeps.0),
      )
  sender-stores w p does mine at h keeps = absurd keeps

  receiver-stores : (w : Write) (p : ReceiverState) → access_of e ≡ store w → Receiving r s.taken (c.known_published - r.start) p
      → IsReceiverStore lamport r p w → Kept the_receiver w (receive_store lamport p s)
  receiver-stores w (cleared u) does h keeps = absurd h
  receiver-stores w (holding u v) does h keeps =
      let one = moves-one the_receiver w u s.taken keeps.0 keeps.1 h.0 holds.taken (omega (arith, h.1, holds.taken)) in
      let count : (after_store q the_receiver w c).taken ≡ c.taken + 1 = one.1 in (
        one.0,
        onward r is o es (receive_store lamport (holding u v) s) (after_store q the_receiver w c) (record {
          numbers = record { published = holds.published; taken = omega (arith, count, holds.taken); begun = holds.begun; room = holds.room };
          sending = holds.sending;
          copied = holds.copied;
          receiving = tt;
          level = ap (λ n. n + 1) holds.level;
        }) e (word_leave B r is o es e even can w r.tail does is.tail keeps.0),
      )
  receiver-stores w p does h keeps = absurd keeps

  -- a load of a word
  module _ (p : Party) (a v : ℕ) (does : access_of e ≡ load a 4 v) (t : ProtocolState) where
    loads : Agrees r o es (after_load q p a 4 v c) t → Agrees r o after (after_load q p a 4 v c) t
    loads knows = onward r is o es t (after_load q p a 4 v c) knows e (off_leave B r is o es e even can (load a 4 v) does tt)

  pub keeps-one : KeepsProtocolBy lamport r (role_of r (hart_of e)) s (access_of e)
      → KeepsAccess q (party_of q (hart_of e)) c (access_of e)
      × Agrees r o after (counts_next q c e) (next_by lamport r (role_of r (hart_of e)) s (access_of e))
  keeps-one keeps = by-access lamport r s (hart_of e) (λ t x z. access_of e ≡ x → AllowedBy B (pending (hart_of e) es) (read o es (hart_of e)) x
      → KeepsAccess q t c x × Agrees r o after (after_access q t x c) z)
      (λ t x off does allowed. quiet t x does off)
      (λ mine a v does allowed. (
        tt,
        loads the_sender a v does (record s { sending = send_load lamport r a v s.sending })
            (sender-loads a v (allowed ∙ ap (λ h. read o es h a 4) mine)),
      ))
      (λ mine a v does allowed. (
        tt,
        loads the_receiver a v does (record s { receiving = receive_load lamport r a v s.receiving })
            (receiver-loads a v (allowed ∙ ap (λ h. read o es h a 4) mine)),
      ))
      (λ mine w on made does allowed. sender-stores w s.sending does mine refl holds.sending made)
      (λ mine w on made does allowed. receiver-stores w s.receiving does holds.receiving made)
      (access_of e) keeps refl can

  -- ---- pending stores of an index

  moves : (p : Party) (w : Write) → hart_of e ≡ hart q p → access_of e ≡ store w → count p (counts_next q c e) ≡ moved q p (count p c) w
  moves p w at does = ap (λ x. count p (after_access q (party_of q (hart_of e)) x c)) does
      ∙ ap (λ t. count p (after_access q t (store w) c)) (party-is r.sender r.receiver (hart_of e) is.parties p at)
      ∙ count-set p (moved q p (count p c) w) c

  -- each moves its count on by one
  pub steadies : (p : Party) (P : Write → Bool) → KeepsAccess q (party_of q (hart_of e)) c (access_of e)
      → Steady (moved_on q p) P (m p) (pending (hart q p) es) → count p (counts_next q c e) ≡ count p c + number_of P (own_store (hart q p) e)
      → Steady (moved_on q p) P (moved_on q p (m p) (write_of es e)) (pending (hart q p) after)
  steadies p P keeps steady grown = steady-next (moved_on q p) (λ n. refl) (λ n w ws. refl) P B o es e even can (m p)
      (moved_on q p (m p) (write_of es e)) (hart q p) steady (λ mine. refl) (λ other. others-unmoved B q queue o es e c p (m p) (sides p) other can keeps)
      (λ w at does.
      (let stored : own_store (hart q p) e ≡ w ∷ [] = store-of (hart q p) e w at does in
      ap (λ n. moved q p n w) (sides p).count_is ∙ sym (moves p w at does) ∙ grown ∙ ap (λ ws. count p c + number_of P ws) stored
      ∙ ap (λ n. n + number_of P (w ∷ [])) (sym (sides p).count_is)))
