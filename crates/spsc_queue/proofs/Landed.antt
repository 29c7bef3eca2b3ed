-- Which stores have landed: by what a party knows of the other's words, and by what it sees where it looks for a word or for room.
use Rattle.spsc_queue.proofs.Common.{ℕ, ◌+◌, ◌<◌, ◌≤◌, ◌≡◌, true, false, List, [], ◌∷◌, ◌++◌, length, sym, ◌∙◌, ap, subst, arith, append-nil, append_assoc}
use Rattle.spsc_queue.proofs.Common.{slice_index, Entry, OpeningValue, history_of, load, access_of, hart_of, pending, read, own_stores, lands, AllowedBy}
use Rattle.spsc_queue.proofs.Common.{LegalAfter-back, stores-append, balanced, lamport, RingBuffer, capacity, overlaps, writes_to, publishes, releases}
use Rattle.spsc_queue.proofs.Common.{unpublished, unreleased, placed, asked, ProtocolState, room_at, says_full, watched_address, says_empty, parties_after}
use Rattle.spsc_queue.proofs.Common.{FollowsSpscProtocol, available_count}
use Rattle.spsc_queue.specs.Laws.{known_count, ready_count}
use Rattle.spsc_queue.proofs.Cases.{never}
use Rattle.spsc_queue.proofs.States.{spare_capacity}
use Rattle.spsc_queue.proofs.Counts.{publishes_to, releases_to, filters, landed_number, landed-grows, landed-past}
use Rattle.spsc_queue.proofs.Growing.{follows-front}
use Rattle.spsc_queue.proofs.Points.{At}
use Rattle.spsc_queue.proofs.Contents.{Content, counts, mine-landed, theirs-landed}
use Rattle.spsc_queue.proofs.Runs.{at-of, sent_before, freed_before, content-of}

-- a point of a run
module _ (B : ℕ) (r : RingBuffer) (o : OpeningValue) (before es fs : List Entry) (t : FollowsSpscProtocol B r o before (es ++ fs)) where
  abbrev s : ProtocolState
  s = parties_after r o before es

  abbrev L : ℕ → ℕ
  L = slice_index (parties_after r o before (es ++ fs)).sent

  front : FollowsSpscProtocol B r o before es
  front = follows-front B r o before es fs t

  at : At r.kind r o (before ++ es) (parties_after r o before es)
  at = at-of B r o before es front

  content : Content r.kind r L o (sent_before r before) (freed_before r before) (before ++ es) s
  content = content-of B r o before es fs t

  there-is : at.there + sent_before r before ≡ r.begins_with + landed_number (publishes_to r.kind r) r.sender (before ++ es)
  there-is = mine-landed B r.kind r L o (sent_before r before) (freed_before r before) (before ++ es) s at content front.legal

  freed-is : at.freed + freed_before r before ≡ landed_number (releases_to r.kind r) r.receiver (before ++ es)
  freed-is = theirs-landed B r.kind r L o (sent_before r before) (freed_before r before) (before ++ es) s at content front.legal

  low : s.taken ≤ at.there
  low = (counts B r.kind r L o (sent_before r before) (freed_before r before) (before ++ es) s at content front.legal).3

  words_counted : available_count r s ≡ at.there + unpublished r (pending r.sender (before ++ es))
  words_counted = omega (arith, at.words_held, filters (publishes r.kind r) (overlaps r) (pending r.sender (before ++ es)))

  slots_counted : s.taken ≡ at.freed + unreleased r (pending r.receiver (before ++ es))
  slots_counted = omega (arith, at.slots_held, filters (releases r.kind r) (overlaps r) (pending r.receiver (before ++ es)))

-- and a later one
module _ (B : ℕ) (r : RingBuffer) (o : OpeningValue) (before es fs gs : List Entry) (t : FollowsSpscProtocol B r o before (es ++ (fs ++ gs))) where
  abbrev S : ProtocolState
  S = parties_after r o before es

  abbrev Z : ProtocolState
  Z = parties_after r o before (es ++ fs)

  later : FollowsSpscProtocol B r o before ((es ++ fs) ++ gs)
  later = subst (FollowsSpscProtocol B r o before) (sym (append_assoc es fs gs)) t

  place : (before ++ es) ++ fs ≡ before ++ (es ++ fs)
  place = append_assoc before es fs

  parts : (h : ℕ) → own_stores h (before ++ (es ++ fs)) ≡ own_stores h (before ++ es) ++ own_stores h fs
  parts h = ap (own_stores h) (sym place) ∙ stores-append h (before ++ es) fs

  -- once the receiver knows of a word, all that the sender's hart stored before it made that word available has reached memory
  published_by : available_count r S < known_count Z → length (own_stores r.sender (before ++ es)) < lands r.sender (before ++ (es ++ fs))
  published_by heard = landed-past (publishes_to r.kind r) r.sender (before ++ (es ++ fs)) (own_stores r.sender (before ++ es)) (own_stores r.sender fs)
      (parts r.sender) (omega (
        arith,
        heard,
        (content B r o before es (fs ++ gs) t).mine,
        there-is B r o before (es ++ fs) gs later,
        (at B r o before (es ++ fs) gs later).known_there,
      ))

  -- once the sender has used a slot again, or is about to, all that the receiver's hart stored before it freed that slot has reached memory
  returned_by : S.taken + capacity r < ready_count Z → length (own_stores r.receiver (before ++ es)) < lands r.receiver (before ++ (es ++ fs))
  returned_by again = landed-past (releases_to r.kind r) r.receiver (before ++ (es ++ fs)) (own_stores r.receiver (before ++ es)) (own_stores r.receiver fs)
      (parts r.receiver) (omega (
        arith,
        again,
        (content B r o before es (fs ++ gs) t).theirs,
        freed-is B r o before (es ++ fs) gs later,
        (at B r o before (es ++ fs) gs later).ready_freed,
        spare_capacity r.kind r.size t.ring.some_slots,
      ))

  even : (h : ℕ) → lands h (before ++ es) ≤ length (own_stores h (before ++ es))
  even h = balanced B (history_of o (before ++ es)) h (front B r o before es (fs ++ gs) t).legal

  there_later : (at B r o before es (fs ++ gs) t).there ≤ (at B r o before (es ++ fs) gs later).there
  there_later =
      let more = subst (λ xs. landed_number (publishes_to r.kind r) r.sender (before ++ es) ≤ landed_number (publishes_to r.kind r) r.sender xs) place
      (landed-grows (publishes_to r.kind r) r.sender (before ++ es) fs (even r.sender)) in
      omega (arith, more, there-is B r o before es (fs ++ gs) t, there-is B r o before (es ++ fs) gs later)

  freed_later : (at B r o before es (fs ++ gs) t).freed ≤ (at B r o before (es ++ fs) gs later).freed
  freed_later =
      let more = subst (λ xs. landed_number (releases_to r.kind r) r.receiver (before ++ es) ≤ landed_number (releases_to r.kind r) r.receiver xs) place
      (landed-grows (releases_to r.kind r) r.receiver (before ++ es) fs (even r.receiver)) in
      omega (arith, more, freed-is B r o before es (fs ++ gs) t, freed-is B r o before (es ++ fs) gs later)

module _ (B : ℕ) (r : RingBuffer) (o : OpeningValue) (before es fs : List Entry) (t : FollowsSpscProtocol B r o before (es ++ fs)) where
  whole : FollowsSpscProtocol B r o before (es ++ (fs ++ []))
  whole = subst (λ xs. FollowsSpscProtocol B r o before (es ++ xs)) (sym (append-nil fs)) t

  pub published : available_count r (parties_after r o before es) < known_count (parties_after r o before (es ++ fs))
      → length (own_stores r.sender (before ++ es)) < lands r.sender (before ++ (es ++ fs))
  published heard = published_by B r o before es fs [] whole heard

  pub returned : (parties_after r o before es).taken + capacity r < ready_count (parties_after r o before (es ++ fs))
      → length (own_stores r.receiver (before ++ es)) < lands r.receiver (before ++ (es ++ fs))
  returned again = returned_by B r o before es fs [] whole again

-- ---- where a party looks

module _ (B : ℕ) (r : RingBuffer) (o : OpeningValue) (before es : List Entry) (e : Entry) (fs : List Entry)
    (t : FollowsSpscProtocol B r o before (es ++ e ∷ fs)) where
  abbrev T : ProtocolState
  T = parties_after r o before es

  abbrev now : At r.kind r o (before ++ es) (parties_after r o before es)
  now = at B r o before es (e ∷ fs) t

  -- what a load read
  loaded : (h a v : ℕ) → hart_of e ≡ h → access_of e ≡ load a 4 v → v ≡ read o (before ++ es) h a 4
  loaded h a v mine does = subst (AllowedBy B (pending (hart_of e) (before ++ es)) (read o (before ++ es) (hart_of e))) does
      (LegalAfter-back B o before es (e ∷ fs) (LegalAfter-back B o [] before (es ++ e ∷ fs) t.legal)).0 ∙ ap (λ g. read o (before ++ es) g a 4) mine

  nothing_there : (u v : ℕ) → hart_of e ≡ r.receiver → access_of e ≡ load (watched_address r.kind r u) 4 v → says_empty r.kind u v ≡ true
      → T.receiving ≡ asked u → now.there ≤ T.taken
  nothing_there u v mine does says was = now.empty u v was (loaded r.receiver (watched_address r.kind r u) v mine does) says

  nothing_free : (u v : ℕ) → hart_of e ≡ r.sender → access_of e ≡ load (room_at r.kind r u) 4 v → says_full r.kind r u v ≡ true
      → T.sending ≡ placed u → now.freed + capacity r ≤ T.stored
  nothing_free u v mine does says was = omega (
    arith,
    now.full u v was (loaded r.sender (room_at r.kind r u) v mine does) says,
    spare_capacity r.kind r.size t.ring.some_slots,
  )

  pub empty_landed : (u v : ℕ) → hart_of e ≡ r.receiver → access_of e ≡ load (watched_address r.kind r u) 4 v → says_empty r.kind u v ≡ true
      → T.receiving ≡ asked u → available_count r T ≡ T.taken + unpublished r (pending r.sender (before ++ es))
  empty_landed u v mine does says was =
      omega (arith, nothing_there u v mine does says was, low B r o before es (e ∷ fs) t, words_counted B r o before es (e ∷ fs) t)

  pub full_landed : (u v : ℕ) → hart_of e ≡ r.sender → access_of e ≡ load (room_at r.kind r u) 4 v → says_full r.kind r u v ≡ true
      → T.sending ≡ placed u → T.taken + capacity r ≡ T.stored + unreleased r (pending r.receiver (before ++ es))
  full_landed u v mine does says was = omega (
    arith,
    nothing_free u v mine does says was,
    now.ready_freed,
    slots_counted B r o before es (e ∷ fs) t,
    spare_capacity r.kind r.size t.ring.some_slots,
  )

-- what has landed at one point is found at a later one
module _ (B : ℕ) (r : RingBuffer) (o : OpeningValue) (before es fs : List Entry) (e : Entry) (gs : List Entry)
    (t : FollowsSpscProtocol B r o before (es ++ (fs ++ e ∷ gs))) where
  pub word_found : (u v : ℕ) → hart_of e ≡ r.receiver → access_of e ≡ load (watched_address r.kind r u) 4 v
      → (parties_after r o before (es ++ fs)).receiving ≡ asked u
      → (parties_after r o before (es ++ fs)).taken + unpublished r (pending r.sender (before ++ es)) < available_count r (parties_after r o before es)
      → says_empty r.kind u v ≡ false
  word_found u v mine does was more = never (says_empty r.kind u v) (λ says. omega (
    arith,
    more,
    words_counted B r o before es (fs ++ e ∷ gs) t,
    there_later B r o before es fs (e ∷ gs) t,
    nothing_there B r o before (es ++ fs) e gs (later B r o before es fs (e ∷ gs) t) u v mine does says was,
  ))

  pub room_found : (u v : ℕ) → hart_of e ≡ r.sender → access_of e ≡ load (room_at r.kind r u) 4 v
      → (parties_after r o before (es ++ fs)).sending ≡ placed u
      → (parties_after r o before (es ++ fs)).stored + unreleased r (pending r.receiver (before ++ es)) < (parties_after r o before es).taken + capacity r
      → says_full r.kind r u v ≡ false
  room_found u v mine does was more = never (says_full r.kind r u v) (λ says. omega (
    arith,
    more,
    slots_counted B r o before es (fs ++ e ∷ gs) t,
    freed_later B r o before es fs (e ∷ gs) t,
    nothing_free B r o before (es ++ fs) e gs (later B r o before es fs (e ∷ gs) t) u v mine does says was,
  ))

pub room_landed : (B : ℕ) (r : RingBuffer) (o : OpeningValue) (before es : List Entry) → FollowsSpscProtocol B r o before es → r.kind ≡ lamport
    → (parties_after r o before es).stored + length (writes_to r (pending r.receiver (before ++ es))) ≤ (parties_after r o before es).taken + capacity r
room_landed B r o before es t is_lamport = (at-of B r o before es t).room is_lamport
