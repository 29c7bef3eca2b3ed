-- What calls of the functions deliver, publish and reclaim, and what they find.
use Rattle.std.proofs.Math.Seq.{take-length}
use Rattle.std.proofs.lemmas.List.{take-append-drop}
use Rattle.spsc_queue.proofs.Common.{ℕ, ◌+◌, ◌<◌, ◌≤◌, ◌≡◌, inl, inr, true, false, List, [], ◌∷◌, ◌++◌, length, Some, refl, sym, ◌∙◌, ap, subst, arith, take}
use Rattle.spsc_queue.proofs.Common.{drop, append-nil, append_assoc, length-append, slice_index, HartState, Entry, OpeningValue, history_of, load, access_of}
use Rattle.spsc_queue.proofs.Common.{hart_of, own_stores, lands, pending, read_byte, state_of, Legal, Kind, lamport, fastforward, RingBuffer, capacity}
use Rattle.spsc_queue.proofs.Common.{unpublished, unreleased, placed, asked, ProtocolState, room_at, says_full, watched_address, says_empty, parties_after}
use Rattle.spsc_queue.proofs.Common.{FollowsSpscProtocol, available_of, available_count, IsOnlyWriter, SpscQueue, party_line, buffer, is_sender_in_call}
use Rattle.spsc_queue.proofs.Common.{is_receiver_in_call, given_words, received_words, UsesAsSpscQueue}
use Rattle.spsc_queue.specs.Laws.{IsPrefix, available_words}
use Rattle.store_buffers.specs.StoreBuffers.{AllLeaveByte}
use Rattle.spsc_queue.specs.Calls.{Party, the_sender, the_receiver}
use Rattle.spsc_queue.proofs.Cases.{IsLevel}
use Rattle.spsc_queue.proofs.States.{level-counts, Known}
use Rattle.spsc_queue.proofs.Growing.{length-firsts}
use Rattle.spsc_queue.proofs.Runs.{known-of, delivered}
use Rattle.store_buffers.proofs.MessagePassing.{handed_over}
use Rattle.spsc_queue.proofs.Landed.{published, returned, empty_landed, full_landed, word_found, room_found}
use Rattle.spsc_queue.proofs.Outline.{part, Level, Stands, WordsAre}
use Rattle.spsc_queue.proofs.Functions.{words_are_by}
use Rattle.spsc_queue.proofs.Parties.{is_busy, words}
use Rattle.spsc_queue.proofs.Calls.{Stand, stands-at, calls_follow, here, was_here}

-- where no word is half sent, each that is stored is available; and at most one isn't
level-available : (k : Kind) (t : ProtocolState) → t.stored ≡ t.published → available_of k t ≡ t.stored
level-available lamport t same = sym same
level-available fastforward t same = refl

most-available : (k : Kind) (t : ProtocolState) → t.stored ≤ t.published + 1 → t.stored ≤ available_of k t + 1
most-available lamport t most = most
most-available fastforward t most = omega arith

prefix-joined : (xs ys zs : List ℕ) → IsPrefix xs ys → IsPrefix ys zs → IsPrefix xs zs
prefix-joined xs ys zs p q = (p.0 ++ q.0, q.1 ∙ ap (λ y. y ++ q.0) p.1 ∙ append_assoc xs p.0 q.0)

one_more : (xs : List ℕ) (w : ℕ) (ys : List ℕ) → ys ≡ xs ++ w ∷ [] → length ys ≡ length xs + 1
one_more xs w ys is = ap length is ∙ length-append xs (w ∷ [])

-- ---- one point of a run

module _ (B M : ℕ) (o : OpeningValue) (q : SpscQueue) (before es : List Entry) (c : UsesAsSpscQueue B M o q before es) (done rest : List Entry)
    (is : es ≡ done ++ rest) where
  abbrev r : RingBuffer
  r = buffer q

  abbrev t : ProtocolState
  t = parties_after r o before done

  abbrev L : ℕ → ℕ
  L = slice_index (parties_after r o before (done ++ rest)).sent

  abbrev A : List ℕ
  A = given_words M o q before done

  abbrev R : List ℕ
  R = received_words M o q before done

  pub stand : Stand B M o q before es c.shares done
  stand = stands-at B M o q before es c done rest is

  facts : Known q.block.kind r L t
  facts = known-of B r o before done rest (subst (FollowsSpscProtocol B r o before) is (calls_follow B M o q before es c))

  abbrev pub at : Party → HartState
  at p = here B M o q before es c.shares p done

  stands : (p : Party) → Stands (party_line q p) p q.block.kind q.block r (is_busy M o q p before done) (words M o q p before done) (at p) (part p t)
  stands p = stand.stands p (at p) (was_here B M o q before es c.shares p done)

  pub words_are : (p : Party) → WordsAre (words M o q p before done) (at p) (part p t)
  words_are p = words_are_by (party_line q p) p q.block.kind q.block r (is_busy M o q p before done) (words M o q p before done) (at p) (part p t) (stands p)

  pub idle_words : (p : Party) → is_busy M o q p before done ≡ false → Level (part p t) × ((part p t).words ≡ words M o q p before done)
  idle_words p idle = subst (λ b. Stands (party_line q p) p q.block.kind q.block r b (words M o q p before done) (at p) (part p t)) idle (stands p)

  pub stored_count : length t.sent ≡ t.stored
  stored_count = ap length facts.sent ∙ length-firsts L t.stored

  pub taken_count : length t.received ≡ t.taken
  taken_count = ap length facts.received ∙ length-firsts L t.taken

  level_counts : IsLevel t.sending → (t.stored ≡ t.published) × (available_count r t ≡ t.stored)
  level_counts level =
      let same = level-counts r t.stored t.published t.sending level facts.sending in (same, level-available q.block.kind t same)

  -- how many words its calls sent, and how many its calls returned
  pub sent_least : length A ≤ t.stored
  sent_least = elim (words_are the_sender) [
    | inl l ↦ let same : length t.sent ≡ length A = ap length l.1 in omega (arith, same, stored_count)
    | inr l ↦ omega (arith, one_more A (slice_index (at the_sender).registers 11) t.sent l, stored_count)
  ]

  pub sent_available : length A ≤ available_count r t
  sent_available = elim (words_are the_sender) [
    | inl l ↦ let same : length t.sent ≡ length A = ap length l.1 in omega (arith, same, stored_count, (level_counts l.0.sending).1)
    | inr l ↦ let most = most-available q.block.kind t facts.stored_published in
        omega (arith, one_more A (slice_index (at the_sender).registers 11) t.sent l, stored_count, most)
  ]

  pub received_least : length R ≤ t.taken
  received_least = elim (words_are the_receiver) [
    | inl l ↦ let same : length t.received ≡ length R = ap length l.1 in omega (arith, same, taken_count)
    | inr l ↦ omega (arith, one_more R (slice_index (at the_receiver).registers 11) t.received l, taken_count)
  ]

  received_most : t.taken ≤ length R + 1
  received_most = elim (words_are the_receiver) [
    | inl l ↦ let same : length t.received ≡ length R = ap length l.1 in omega (arith, same, taken_count)
    | inr l ↦ omega (arith, one_more R (slice_index (at the_receiver).registers 11) t.received l, taken_count)
  ]

  pub idle_sent : is_sender_in_call M o q before done ≡ false → (t.stored ≡ length A) × (available_count r t ≡ length A) × (t.stored ≡ t.published)
  idle_sent idle =
      let all = idle_words the_sender idle in
      let same : length t.sent ≡ length A = ap length all.1 in
      let level = level_counts all.0.sending in (omega (arith, same, stored_count), omega (arith, same, stored_count, level.1), level.0)

  pub idle_received : is_receiver_in_call M o q before done ≡ false → t.taken ≡ length R
  idle_received idle = let same : length t.received ≡ length R = ap length (idle_words the_receiver idle).1 in omega (arith, same, taken_count)

  -- at most as many words lie in the queue as it holds; and one that a call of the receiver is to return
  pub always_capacity : length A ≤ length R + capacity r + 1
  always_capacity = omega (arith, received_most, sent_least, facts.room)

  pub idle_capacity : is_receiver_in_call M o q before done ≡ false → length A ≤ length R + capacity r
  idle_capacity idle = omega (arith, idle_received idle, sent_least, facts.room)

-- ---- first in, first out

module _ (B M : ℕ) (o : OpeningValue) (q : SpscQueue) (before es : List Entry) (c : UsesAsSpscQueue B M o q before es) where
  abbrev T : ProtocolState
  T = parties_after (buffer q) o before es

  whole : es ≡ es ++ []
  whole = sym (append-nil es)

  got_prefix : IsPrefix (received_words M o q before es) T.received
  got_prefix = elim (words_are B M o q before es c es [] whole the_receiver) [
    | inl l ↦ ([], l.1 ∙ sym (append-nil (received_words M o q before es)))
    | inr l ↦ (slice_index (at B M o q before es c es [] whole the_receiver).registers 11 ∷ [], l)
  ]

  delivered_prefix : IsPrefix (received_words M o q before es) (available_words (buffer q) T)
  delivered_prefix = prefix-joined (received_words M o q before es) T.received (available_words (buffer q) T) got_prefix
      (delivered B (buffer q) o before es (calls_follow B M o q before es c))

  pub fifo : is_sender_in_call M o q before es ≡ false → IsPrefix (received_words M o q before es) (given_words M o q before es)
  fifo idle =
      let counts = idle_sent B M o q before es c es [] whole idle in
      let all = idle_words B M o q before es c es [] whole the_sender idle in
      let size : length T.sent ≡ length (given_words M o q before es) = ap length all.1 in
      let same : available_words (buffer q) T ≡ T.sent = ap (λ n. take n T.sent) (counts.1 ∙ sym size) ∙ take-length T.sent in
      subst (IsPrefix (received_words M o q before es)) (same ∙ all.1) delivered_prefix

  -- the word of a send that is under way may have been received too
  pub fifo_within : (s : HartState) → state_of M (history_of o (before ++ es)) q.sender ≡ Some s
      → IsPrefix (received_words M o q before es) (given_words M o q before es ++ slice_index s.registers 11 ∷ [])
  fifo_within s at =
      let A : List ℕ = given_words M o q before es in
      let n : ℕ = available_count (buffer q) T in
      let all : IsPrefix (received_words M o q before es) T.sent = prefix-joined (received_words M o q before es) (available_words (buffer q) T) T.sent
      delivered_prefix (drop n T.sent, sym (take-append-drop n T.sent)) in
      prefix-joined (received_words M o q before es) T.sent (A ++ slice_index s.registers 11 ∷ []) all
      (elim (words_are_by q.send_line the_sender q.block.kind q.block (buffer q) (is_sender_in_call M o q before es) A s (part the_sender T)
      ((stand B M o q before es c es [] whole).stands the_sender s at)) [
        | inl l ↦ (slice_index s.registers 11 ∷ [], sym (ap (λ ws. ws ++ slice_index s.registers 11 ∷ []) l.1))
        | inr l ↦ ([], sym l ∙ sym (append-nil T.sent))
      ])

-- ---- publication, reclamation and message passing

module _ (B M : ℕ) (o : OpeningValue) (q : SpscQueue) (before es fs : List Entry) (c : UsesAsSpscQueue B M o q before (es ++ fs)) where
  end : es ++ fs ≡ (es ++ fs) ++ []
  end = sym (append-nil (es ++ fs))

  pub publication : is_sender_in_call M o q before es ≡ false → length (given_words M o q before es) < length (received_words M o q before (es ++ fs))
      → length (own_stores q.sender (before ++ es)) < lands q.sender (before ++ (es ++ fs))
  publication idle more =
      let sent = idle_sent B M o q before (es ++ fs) c es fs refl idle in
      published B (buffer q) o before es fs (calls_follow B M o q before (es ++ fs) c)
      (omega (arith, sent.1, more, received_least B M o q before (es ++ fs) c (es ++ fs) [] end))

  pub reclamation : is_receiver_in_call M o q before es ≡ false
      → length (received_words M o q before es) + capacity (buffer q) < length (given_words M o q before (es ++ fs))
      → length (own_stores q.receiver (before ++ es)) < lands q.receiver (before ++ (es ++ fs))
  reclamation idle more = returned B (buffer q) o before es fs (calls_follow B M o q before (es ++ fs) c)
      (omega (arith, idle_received B M o q before (es ++ fs) c es fs refl idle, more, sent_least B M o q before (es ++ fs) c (es ++ fs) [] end))

  -- what a hart reads of a byte is what every hart reads of it later, once its stores have landed
  handed : (a : ℕ) → length (own_stores a (before ++ es)) < lands a (before ++ (es ++ fs)) → (h x : ℕ) → IsOnlyWriter a x (before ++ es) → AllLeaveByte x fs
      → read_byte o (before ++ (es ++ fs)) h x ≡ read_byte o (before ++ es) a x
  handed a landed h x only leave =
      subst (λ xs. read_byte o xs h x ≡ read_byte o (before ++ es) a x) (append_assoc before es fs)
      (handed_over B o a h x (before ++ es) fs (subst (λ xs. Legal B (history_of o xs)) (sym (append_assoc before es fs)) c.shares.run.legal)
      (omega (arith, subst (λ xs. length (own_stores a (before ++ es)) < lands a xs) (sym (append_assoc before es fs)) landed)) only leave)

  pub message_passing : is_sender_in_call M o q before es ≡ false → length (given_words M o q before es) < length (received_words M o q before (es ++ fs))
      → (h x : ℕ) → IsOnlyWriter q.sender x (before ++ es) → AllLeaveByte x fs → read_byte o (before ++ (es ++ fs)) h x ≡ read_byte o (before ++ es) q.sender x
  message_passing idle more h x only leave = handed q.sender (publication idle more) h x only leave

  pub handing_back : is_receiver_in_call M o q before es ≡ false
      → length (received_words M o q before es) + capacity (buffer q) < length (given_words M o q before (es ++ fs))
      → (h x : ℕ) → IsOnlyWriter q.receiver x (before ++ es) → AllLeaveByte x fs
      → read_byte o (before ++ (es ++ fs)) h x ≡ read_byte o (before ++ es) q.receiver x
  handing_back idle more h x only leave = handed q.receiver (reclamation idle more) h x only leave

-- ---- what a party finds that looks for room, or for a word, at its state of the protocol

module _ (B M : ℕ) (o : OpeningValue) (q : SpscQueue) (before done : List Entry) (e : Entry) (fs : List Entry)
    (c : UsesAsSpscQueue B M o q before (done ++ e ∷ fs)) where
  abbrev now : ProtocolState
  now = parties_after (buffer q) o before done

  all : FollowsSpscProtocol B (buffer q) o before (done ++ e ∷ fs)
  all = calls_follow B M o q before (done ++ e ∷ fs) c

  pub finds_empty : (u v : ℕ) → hart_of e ≡ q.receiver → access_of e ≡ load (watched_address q.block.kind (buffer q) u) 4 v → says_empty q.block.kind u v ≡ true
      → now.receiving ≡ asked u → now.received ≡ received_words M o q before done
      → length (given_words M o q before done) ≤ length (received_words M o q before done) + unpublished (buffer q) (pending q.sender (before ++ done))
  finds_empty u v mine does says was same =
      let count : length now.received ≡ length (received_words M o q before done) = ap length same in
      let taken = taken_count B M o q before (done ++ e ∷ fs) c done (e ∷ fs) refl in
      let sent = sent_available B M o q before (done ++ e ∷ fs) c done (e ∷ fs) refl in
      omega (arith, empty_landed B (buffer q) o before done e fs all u v mine does says was, count, taken, sent)

  pub finds_full : (u v : ℕ) → hart_of e ≡ q.sender → access_of e ≡ load (room_at q.block.kind (buffer q) u) 4 v → says_full q.block.kind (buffer q) u v ≡ true
      → now.sending ≡ placed u → now.sent ≡ given_words M o q before done → length (received_words M o q before done) + capacity (buffer q)
      ≤ length (given_words M o q before done) + unreleased (buffer q) (pending q.receiver (before ++ done))
  finds_full u v mine does says was same =
      let count : length now.sent ≡ length (given_words M o q before done) = ap length same in
      let stored = stored_count B M o q before (done ++ e ∷ fs) c done (e ∷ fs) refl in
      let received = received_least B M o q before (done ++ e ∷ fs) c done (e ∷ fs) refl in
      omega (arith, full_landed B (buffer q) o before done e fs all u v mine does says was, count, stored, received)

-- and what had landed already where a call began

module _ (B M : ℕ) (o : OpeningValue) (q : SpscQueue) (before done part : List Entry) (e : Entry) (fs : List Entry)
    (c : UsesAsSpscQueue B M o q before (done ++ (part ++ e ∷ fs))) where
  abbrev es : List Entry
  es = done ++ (part ++ e ∷ fs)

  abbrev then_state : ProtocolState
  then_state = parties_after (buffer q) o before (done ++ part)

  keeps : FollowsSpscProtocol B (buffer q) o before es
  keeps = calls_follow B M o q before es c

  cut : es ≡ (done ++ part) ++ e ∷ fs
  cut = sym (append_assoc done part (e ∷ fs))

  pub finds_word : (u v : ℕ) → hart_of e ≡ q.receiver → access_of e ≡ load (watched_address q.block.kind (buffer q) u) 4 v
      → then_state.receiving ≡ asked u → then_state.received ≡ received_words M o q before done
      → length (received_words M o q before done) + unpublished (buffer q) (pending q.sender (before ++ done)) < length (given_words M o q before done)
      → says_empty q.block.kind u v ≡ false
  finds_word u v mine does was same more =
      let count : length then_state.received ≡ length (received_words M o q before done) = ap length same in
      let taken = taken_count B M o q before es c (done ++ part) (e ∷ fs) cut in
      let sent = sent_available B M o q before es c done (part ++ e ∷ fs) refl in
      word_found B (buffer q) o before done part e fs keeps u v mine does was (omega (arith, more, count, taken, sent))

  pub finds_room : (u v : ℕ) → hart_of e ≡ q.sender → access_of e ≡ load (room_at q.block.kind (buffer q) u) 4 v
      → then_state.sending ≡ placed u → then_state.sent ≡ given_words M o q before done
      → length (given_words M o q before done) + unreleased (buffer q) (pending q.receiver (before ++ done))
      < length (received_words M o q before done) + capacity (buffer q)
      → says_full q.block.kind (buffer q) u v ≡ false
  finds_room u v mine does was same more =
      let count : length then_state.sent ≡ length (given_words M o q before done) = ap length same in
      let stored = stored_count B M o q before es c (done ++ part) (e ∷ fs) cut in
      let received = received_least B M o q before es c done (part ++ e ∷ fs) refl in
      room_found B (buffer q) o before done part e fs keeps u v mine does was (omega (arith, more, count, stored, received))
