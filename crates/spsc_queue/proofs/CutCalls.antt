-- A call that is cut at some line: its accesses are the first of a whole call's, and stay in the block.
use Rattle.std.proofs.lemmas.List.Elements.{All-append}
use Rattle.spsc_queue.proofs.Common.{ℕ, ◌+◌, ◌*◌, ◌%◌, ◌≤◌, ◌≡◌, ◌⊎◌, inl, inr, Bool, true, false, if◌then◌else◌, Option, Some, None, List, [], ◌∷◌, ◌++◌, refl}
use Rattle.spsc_queue.proofs.Common.{sym, ◌∙◌, ap, subst, arith, append-nil, append_assoc, slice_index, All, All-nil, All-cons, All-head, All-tail, write}
use Rattle.spsc_queue.proofs.Common.{HartState, Access, load, store, Kind, lamport, fastforward, RingBuffer, IsRingBuffer, next, SenderState, placed, renewing}
use Rattle.spsc_queue.proofs.Common.{waiting, room_at, says_full, says_empty, watched_address, looks_past_copy, Block, ring_at, sees_full, look_accesses}
use Rattle.spsc_queue.proofs.Common.{send_accesses, receive_accesses, take_accesses}
use Rattle.spsc_queue.specs.Calls.{Party, the_sender, the_receiver}
use Rattle.spsc_queue.specs.CallEffects.{KeepsOtherRegisters, StaysInBlock, SendSoFar, ReceiveSoFar}
use Rattle.spsc_queue.proofs.Courses.{At, at_00, at_04, at_08, at_0C, at_10, at_14, at_18, at_1C, at_20, at_24, at_28, at_2C, at_30, at_34, at_38, at_3C, at_40}
use Rattle.spsc_queue.proofs.Courses.{Course}
use Rattle.spsc_queue.proofs.Outline.{Part, IsOffset, IsNear, IsFit, Near, first_look, Word, Found, looked, ready, all_accesses, Fresh, Indexed, Seen, Waiting}
use Rattle.spsc_queue.proofs.Outline.{Past, Ready, Half, Finished, OwnRow, Row}
use Rattle.spsc_queue.proofs.Cases.{either}
use Rattle.spsc_queue.proofs.Parts.{knows-offset, looked-offset, ready-offset, stored-offset}

-- ---- the accesses of a call stay in the block

front_all : (P : Access → Type 0) (xs ys : List Access) → All P (xs ++ ys) → All P xs
front_all P [] ys all = All-nil P
front_all P (x ∷ xs) ys all = All-cons P x xs (All-head P x (xs ++ ys) all) (front_all P xs ys (All-tail P x (xs ++ ys) all))

module _ (r : RingBuffer) (is : IsRingBuffer r) (u : ℕ) (among : u + 4 ≤ 4 * r.size) where
  abbrev In : Access → Type 0
  In x = StaysInBlock r x

  all_if : (b : Bool) (xs ys : List Access) → All In xs → All In ys → All In (if b then xs else ys)
  all_if true xs ys one two = one
  all_if false xs ys one two = two

  head_in : (r.first ≤ r.head) × (r.head + 4 ≤ r.end)
  head_in = (is.head.above, is.head.below)

  tail_in : (r.first ≤ r.tail) × (r.tail + 4 ≤ r.end)
  tail_in = (is.tail.above, is.tail.below)

  slot_in : (r.first ≤ r.slots + u) × (r.slots + u + 4 ≤ r.end)
  slot_in = (omega (arith, is.slots_above), omega (arith, is.slots_below, among))

  two : (x y : Access) → In x → In y → All In (x ∷ y ∷ [])
  two x y one other = All-cons In x (y ∷ []) one (All-cons In y [] other (All-nil In))

  room_in : (K : Kind) (v : ℕ) → In (load (room_at K r u) 4 v)
  room_in lamport v = tail_in
  room_in fastforward v = slot_in

  watched_in : (K : Kind) (v : ℕ) → In (load (watched_address K r u) 4 v)
  watched_in lamport v = head_in
  watched_in fastforward v = slot_in

  looks_in : (K : Kind) (c v : ℕ) (q : Option ℕ) → r.copy ≡ q → All In (look_accesses q K r u c v)
  looks_in K c v None none = All-cons In (load (room_at K r u) 4 v) [] (room_in K v) (All-nil In)
  looks_in K c v (Some a) some =
      let copy = is.copy a some in
      let rest : List Access = if says_full K r u v then [] else store (write a 4 v) ∷ [] in
      All-cons In (load a 4 c) (if says_full K r u c then load (room_at K r u) 4 v ∷ rest else []) (copy.above, copy.below)
      (all_if (says_full K r u c) (load (room_at K r u) 4 v ∷ rest) [] (All-cons In (load (room_at K r u) 4 v) rest (room_in K v)
      (all_if (says_full K r u v) [] (store (write a 4 v) ∷ []) (All-nil In) (All-cons In (store (write a 4 v)) [] (copy.above, copy.below) (All-nil In))))
      (All-nil In))

  send_in : (K : Kind) (w c v : ℕ) → All In (send_accesses K r w u c v)
  send_in K w c v =
      let looks : List Access = look_accesses r.copy K r u c v in
      let stores : List Access = store (write (r.slots + u) 4 w) ∷ store (write r.head 4 (next r u)) ∷ [] in
      let rest : List Access = if sees_full r.copy K r u c v then [] else stores in
      All-cons In (load r.head 4 u) (looks ++ rest) head_in (All-append In looks rest (looks_in K c v r.copy refl)
      (all_if (sees_full r.copy K r u c v) [] stores (All-nil In)
      (two (store (write (r.slots + u) 4 w)) (store (write r.head 4 (next r u))) slot_in head_in)))

  take_in : (K : Kind) (w : ℕ) → All In (take_accesses K r w u)
  take_in lamport w = two (load (r.slots + u) 4 w) (store (write r.tail 4 (next r u))) slot_in tail_in
  take_in fastforward w = two (store (write (r.slots + u) 4 0)) (store (write r.tail 4 (next r u))) slot_in tail_in

  receive_in : (K : Kind) (w v : ℕ) → All In (receive_accesses K r w u v)
  receive_in K w v =
      let rest : List Access = if says_empty K u v then [] else take_accesses K r w u in
      All-cons In (load r.tail 4 u) (load (watched_address K r u) 4 v ∷ rest) tail_in (All-cons In (load (watched_address K r u) 4 v) rest (watched_in K v)
      (all_if (says_empty K u v) [] (take_accesses K r w u) (All-nil In) (take_in K w)))

-- ---- what a call has done, by its line

-- where the accesses so far are the first of those of a whole call, whose word is w
record Done (p : Party) (K : Kind) (r : RingBuffer) (c : Course) (x : List ℕ) : Type 0 where
  kept : KeepsOtherRegisters c.entry.registers x
  word : Word p c.entry (slice_index x 11)
  taken : ℕ
  sent : Word p c.entry taken
  place : ℕ
  copy : ℕ
  seen : ℕ
  among : (place + 4 ≤ 4 * r.size) × (place % 4 ≡ 0)
  found : Found p K seen taken
  left : List Access
  all : c.did ++ left ≡ all_accesses p K r taken place copy seen

module _ (p : Party) (K : Kind) (r : RingBuffer) (c : Course) where
  done_with : (x : List ℕ) → KeepsOtherRegisters c.entry.registers x → Word p c.entry (slice_index x 11) → (w : ℕ) → Word p c.entry w → (u o v : ℕ)
      → (u + 4 ≤ 4 * r.size) × (u % 4 ≡ 0) → Found p K v w → (did left : List Access) → c.did ≡ did → did ++ left ≡ all_accesses p K r w u o v
      → Done p K r c x
  done_with x kept word w sent u o v among found did left so all = record {
    kept = kept;
    word = word;
    taken = w;
    sent = sent;
    place = u;
    copy = o;
    seen = v;
    among = among;
    found = found;
    left = left;
    all = ap (λ ys. ys ++ left) so ∙ all;
  }

  -- the word that a call would pass, before it has looked or read it
  own_word : (x : List ℕ) → Word p c.entry (slice_index x 11) → Word p c.entry (slice_index x 11) × Found p K (slice_index x 11) (slice_index x 11)
  own_word x word = (word, same p K)
    where
      same : (p : Party) (K : Kind) → Found p K (slice_index x 11) (slice_index x 11)
      same the_sender K = tt
      same the_receiver lamport = tt
      same the_receiver fastforward = refl

-- of a choice that was made
chosen : (b : Bool) (xs ys zs : List Access) → b ≡ false → xs ++ zs ≡ xs ++ (if b then ys else zs)
chosen b xs ys zs is = ap (λ d. xs ++ (if d then ys else zs)) (sym is)

module _ (n : ℕ) (k : Block) (a b : ℕ) (is : IsRingBuffer (ring_at k a b)) (c : Course) (ws : List ℕ) (x : List ℕ) (t : Part) (near : Near k t) where
  abbrev r : RingBuffer
  r = ring_at k a b

  word_at : (p : Party) → c.entry.registers ≡ x → Word p c.entry (slice_index x 11)
  word_at the_sender same = ap (λ y. slice_index y 11) (sym same)
  word_at the_receiver same = tt

  fresh_done : (p : Party) (K : Kind) → Fresh n p k c ws x t → Done p K r c x
  fresh_done p K row =
      let word = word_at p row.same in
      let w : ℕ = slice_index x 11 in
      done_with p K r c x row.frame.left.kept word w word 0 0 w (omega (arith, is.some_slots), omega arith) (own_word p K r c x word).1
      [] (all_accesses p K r w 0 0 w) row.did refl

  -- its index is read
  indexed_done : (p : Party) (K : Kind) (m : ℕ) → Indexed n p k r c m ws x t → Done p K r c x
  indexed_done the_sender K m row =
      let u : ℕ = slice_index x 5 in
      let w : ℕ = slice_index x 11 in
      done_with the_sender K r c x row.frame.left.kept row.word w row.word u 0 0 (knows-offset k the_sender u t row.knows near) tt (load r.head 4 u ∷ [])
      (look_accesses r.copy K r u 0 0
      ++ (if sees_full r.copy K r u 0 0 then [] else store (write (r.slots + u) 4 w) ∷ store (write r.head 4 (next r u)) ∷ [])) row.did refl
  indexed_done the_receiver K m row =
      let u : ℕ = slice_index x 5 in
      let w : ℕ = slice_index x 11 in
      done_with the_receiver K r c x row.frame.left.kept tt w tt u 0 w (knows-offset k the_receiver u t row.knows near) (own_word the_receiver K r c x tt).1
      (load r.tail 4 u ∷ []) (load (watched_address K r u) 4 w ∷ (if says_empty K u w then [] else take_accesses K r w u)) row.did refl

  -- it has looked
  seen_done : (p : Party) (K : Kind) (m i : ℕ) → Seen n p K k r c m i ws x t → Done p K r c x
  seen_done the_sender K m i row =
      let u : ℕ = slice_index x 5 in
      let v : ℕ = slice_index x i in
      let w : ℕ = slice_index x 11 in
      let tells = looks_first r.copy K u v
      (if sees_full r.copy K r u v v then [] else store (write (r.slots + u) 4 w) ∷ store (write r.head 4 (next r u)) ∷ []) in
      done_with the_sender K r c x row.frame.left.kept row.word w row.word u v v (looked-offset k the_sender K r u v t row.knows near) tt
      (looked the_sender K r u v) tells.0 row.did (ap (λ ys. load r.head 4 u ∷ ys) tells.1)
    where
      looks_first : (q : Option ℕ) (K : Kind) (u v : ℕ) (more : List Access)
          → (left : List Access) × (load (first_look q (room_at K r u)) 4 v ∷ left ≡ look_accesses q K r u v v ++ more)
      looks_first None K u v more = (more, refl)
      looks_first (Some c) K u v more =
          ((if says_full K r u v then load (room_at K r u) 4 v ∷ (if says_full K r u v then [] else store (write c 4 v) ∷ []) else []) ++ more, refl)
  seen_done the_receiver K m i row = by K refl row
    where
      u : ℕ
      u = slice_index x 5

      v : ℕ
      v = slice_index x i

      by : (K2 : Kind) → K ≡ K2 → Seen n the_receiver K2 k r c m i ws x t → Done the_receiver K2 r c x
      by lamport same row = done_with the_receiver lamport r c x row.frame.left.kept tt 0 tt u 0 v
          (looked-offset k the_receiver lamport r u v t row.knows near) tt
          (looked the_receiver lamport r u v) (if says_empty lamport u v then [] else take_accesses lamport r 0 u) row.did refl
      by fastforward same row =
          done_with the_receiver fastforward r c x row.frame.left.kept tt v tt u 0 v (looked-offset k the_receiver fastforward r u v t row.knows near) refl
          (looked the_receiver fastforward r u v) (if says_empty fastforward u v then [] else take_accesses fastforward r v u) row.did refl

  waiting_done : (m : ℕ) → Waiting n k r c m ws x t → Done the_receiver lamport r c x
  waiting_done m row =
      let u : ℕ = slice_index x 5 in
      done_with the_receiver lamport r c x row.frame.left.kept tt 0 tt u 0 row.seen (ready_at u row.knows) tt (looked the_receiver lamport r u row.seen)
      (if says_empty lamport u row.seen then [] else take_accesses lamport r 0 u) row.did refl
    where
      ready_at : (u : ℕ) → t.receiving ≡ waiting u → IsOffset k u
      ready_at u knows = subst (IsFit k) knows near.receiving

  -- it looks past its copy
  past_done : (m : ℕ) (state : SenderState) (since : List Access) (v : ℕ) → IsOffset k (slice_index x 5)
      → (since ≡ []) ⊎ (since ≡ load r.tail 4 v ∷ []) → Past n k r c m ws x t state since → Done the_sender lamport r c x
  past_done m state since v among did row =
      let u : ℕ = slice_index x 5 in
      let w : ℕ = slice_index x 11 in
      let o : ℕ = k.base + 4 in
      let stores : List Access = if sees_full r.copy lamport r u row.copy v then []
      else store (write (r.slots + u) 4 w) ∷ store (write r.head 4 (next r u)) ∷ [] in
      let renews : List Access = if says_full lamport r u v then [] else store (write o 4 v) ∷ [] in
      let whole : load o 4 row.copy ∷ load r.tail 4 v ∷ (renews ++ stores) ≡ look_accesses r.copy lamport r u row.copy v ++ stores =
      sym (ap (λ q. look_accesses q lamport r u row.copy v ++ stores) row.copies
      ∙ ap (λ d. (load o 4 row.copy ∷ (if d then load r.tail 4 v ∷ renews else [])) ++ stores) row.full) in
      elim did [
        | inl none ↦ done_with the_sender lamport r c x row.frame.left.kept row.word w row.word u row.copy v among tt
            (load r.head 4 u ∷ load o 4 row.copy ∷ []) (load r.tail 4 v ∷ (renews ++ stores))
            (row.did ∙ ap (λ ys. load r.head 4 u ∷ load o 4 row.copy ∷ ys) none) (ap (λ ys. load r.head 4 u ∷ ys) whole)
        | inr one ↦ done_with the_sender lamport r c x row.frame.left.kept row.word w row.word u row.copy v among tt
            (load r.head 4 u ∷ load o 4 row.copy ∷ load r.tail 4 v ∷ []) (renews ++ stores)
            (row.did ∙ ap (λ ys. load r.head 4 u ∷ load o 4 row.copy ∷ ys) one) (ap (λ ys. load r.head 4 u ∷ ys) whole)
      ]

  -- it may store
  ready_done : (p : Party) (K : Kind) (m : ℕ) (five seven : ℕ → ℕ) → Ready n p K k r c m ws x t five seven → Done p K r c x
  ready_done the_sender K m five seven row =
      let u : ℕ = row.place in
      let w : ℕ = slice_index x 11 in
      done_with the_sender K r c x row.frame.left.kept row.word w row.word u row.copy row.seen (ready-offset k the_sender u w t row.knows near) tt
      (ready the_sender K r u row.copy row.seen w)
      (if sees_full r.copy K r u row.copy row.seen then [] else store (write (r.slots + u) 4 w) ∷ store (write r.head 4 (next r u)) ∷ []) row.did refl
  ready_done the_receiver lamport m five seven row =
      let u : ℕ = row.place in
      let w : ℕ = slice_index x 11 in
      done_with the_receiver lamport r c x row.frame.left.kept tt w tt u row.copy row.seen (ready-offset k the_receiver u w t row.knows near) tt
      (ready the_receiver lamport r u row.copy row.seen w) (store (write r.tail 4 (next r u)) ∷ []) row.did
      (chosen (says_empty lamport u row.seen) (looked the_receiver lamport r u row.seen) [] (take_accesses lamport r w u) row.says)
  ready_done the_receiver fastforward m five seven row =
      let u : ℕ = row.place in
      let w : ℕ = slice_index x 11 in
      done_with the_receiver fastforward r c x row.frame.left.kept tt w tt u row.copy row.seen (ready-offset k the_receiver u w t row.knows near) row.found
      (ready the_receiver fastforward r u row.copy row.seen w) (if says_empty fastforward u row.seen then [] else take_accesses fastforward r w u) row.did refl

  -- it has stored to the slot
  half_sent : (K : Kind) (m i : ℕ) → Half n the_sender K k r c m i ws x t → Done the_sender K r c x
  half_sent K m i row =
      let u : ℕ = row.place in
      let w : ℕ = slice_index x 11 in
      let looks : List Access = load r.head 4 u ∷ look_accesses r.copy K r u row.copy row.seen in
      let slot : Access = store (write (r.slots + u) 4 w) in
      let index : Access = store (write r.head 4 (next r u)) in
      done_with the_sender K r c x row.frame.left.kept row.word w row.word u row.copy row.seen (stored-offset k the_sender u t row.knows near) tt
      (looks ++ slot ∷ []) (index ∷ []) row.did
      (append_assoc looks (slot ∷ []) (index ∷ []) ∙ chosen (sees_full r.copy K r u row.copy row.seen) looks [] (slot ∷ index ∷ []) row.says)

  half_taken : (m i : ℕ) → Half n the_receiver fastforward k r c m i ws x t → Done the_receiver fastforward r c x
  half_taken m i row =
      let u : ℕ = row.place in
      let w : ℕ = slice_index x 11 in
      done_with the_receiver fastforward r c x row.frame.left.kept tt w tt u row.copy row.seen (stored-offset k the_receiver u t row.knows near) row.found
      (looked the_receiver fastforward r u row.seen ++ store (write (r.slots + u) 4 0) ∷ []) (store (write r.tail 4 (next r u)) ∷ []) row.did
      (chosen (says_empty fastforward u row.seen) (looked the_receiver fastforward r u row.seen) [] (take_accesses fastforward r w u) row.says)

  finished_done : (p : Party) (K : Kind) (m answer : ℕ) (vs : List ℕ) → Finished n p K k r c m vs x t answer → Done p K r c x
  finished_done p K m answer vs row =
      let w : ℕ = slice_index x 11 in
      done_with p K r c x row.left.kept row.word w row.word row.place row.copy row.seen row.among row.found
      (all_accesses p K r w row.place row.copy row.seen) [] row.did (append-nil (all_accesses p K r w row.place row.copy row.seen))

  own_done : (p : Party) (K : Kind) (line : At) → OwnRow n p K k r c ws line x t → Done p K r c x
  own_done the_sender lamport at_04 row = indexed_done the_sender lamport 1 row
  own_done the_sender lamport at_08 row = seen_done the_sender lamport 2 6 row
  own_done the_sender lamport at_0C row = seen_done the_sender lamport 3 6 row.0
  own_done the_sender lamport at_10 row = seen_done the_sender lamport 4 6 row.0
  own_done the_sender lamport at_14 row = seen_done the_sender lamport 5 6 row.0
  own_done the_sender lamport at_18 row = ready_done the_sender lamport _ _ _ row
  own_done the_sender lamport at_1C row = ready_done the_sender lamport _ _ _ row
  own_done the_sender lamport at_20 row = half_sent lamport _ _ row
  own_done the_sender lamport at_34 row =
      past_done 6 (placed (slice_index x 5)) [] 0 (subst (IsNear k) row.knows near.sending) (inl refl) row
  own_done the_sender lamport at_38 row =
      past_done 7 (looks_past_copy lamport r (slice_index x 5) (slice_index x 6)) (load r.tail 4 (slice_index x 6) ∷ []) (slice_index x 6)
      (either (IsNear k) (says_full lamport r (slice_index x 5) (slice_index x 6)) (placed (slice_index x 5)) (renewing (slice_index x 5) (slice_index x 6))
      (λ h. h) (λ h. h) (subst (IsNear k) row.knows near.sending)) (inr refl) row
  own_done the_sender lamport at_3C row =
      past_done 8 (renewing (slice_index x 5) (slice_index x 6)) (load r.tail 4 (slice_index x 6) ∷ []) (slice_index x 6)
      (subst (IsNear k) row.0.knows near.sending) (inr refl) row.0
  own_done the_sender lamport at_40 row = ready_done the_sender lamport _ _ _ row.0
  own_done the_receiver lamport at_04 row = indexed_done the_receiver lamport 1 row
  own_done the_receiver lamport at_08 row = seen_done the_receiver lamport 2 6 row
  own_done the_receiver lamport at_0C row = waiting_done 3 row
  own_done the_receiver lamport at_10 row = waiting_done 4 row.0
  own_done the_receiver lamport at_14 row = ready_done the_receiver lamport _ _ _ row
  own_done the_receiver lamport at_18 row = ready_done the_receiver lamport _ _ _ row
  own_done the_receiver lamport at_1C row = ready_done the_receiver lamport _ _ _ row.0
  own_done the_receiver lamport at_20 row = ready_done the_receiver lamport _ _ _ row
  own_done p fastforward at_04 row = indexed_done p fastforward 1 row
  own_done p fastforward at_08 row = indexed_done p fastforward 2 row.0
  own_done p fastforward at_0C row = seen_done p fastforward _ _ row.0
  own_done p fastforward at_10 row = ready_done p fastforward _ _ _ row
  own_done p fastforward at_14 row = ready_done p fastforward _ _ _ row
  own_done p fastforward at_18 row = ready_done p fastforward _ _ _ row.0
  own_done p fastforward at_1C row = ready_done p fastforward _ _ _ row
  own_done the_sender fastforward at_20 row = half_sent fastforward _ _ row
  own_done the_receiver fastforward at_20 row = half_taken _ _ row
  own_done p K line row = absurd row

  row_done : (p : Party) (K : Kind) (line : At) → Row n p K k r c ws line x t → Done p K r c x
  row_done p K at_00 row = fresh_done p K row
  row_done p K at_04 row = indexed_done p K 1 row
  row_done p K at_24 row = finished_done p K _ _ _ row
  row_done p K at_28 row = finished_done p K _ _ _ row.0
  row_done p K at_2C row = finished_done p K _ _ _ row
  row_done p K at_30 row = finished_done p K _ _ _ row.0
  row_done p K line row = own_done p K line row

  pub send_cut : (K : Kind) (line : At) (z : HartState) → x ≡ z.registers → Row n the_sender K k r c ws line x t → SendSoFar K r c.entry z c.did
  send_cut K line z same row =
      let d = row_done the_sender K line row in
      let w : ℕ = slice_index c.entry.registers 11 in
      let all : c.did ++ d.left ≡ send_accesses K r w d.place d.copy d.seen = d.all ∙ ap (λ y. send_accesses K r y d.place d.copy d.seen) d.sent in
      record {
        registers = subst (KeepsOtherRegisters c.entry.registers) same d.kept;
        word = ap (λ y. slice_index y 11) (sym same) ∙ d.word;
        head = d.place;
        copy = d.copy;
        seen = d.seen;
        among = d.among.0;
        aligned = d.among.1;
        left = d.left;
        accesses = all;
        inside = front_all (StaysInBlock r) c.did d.left (subst (All (StaysInBlock r)) (sym all) (send_in r is d.place d.among.0 K w d.copy d.seen));
      }

  pub receive_cut : (K : Kind) (line : At) (z : HartState) → x ≡ z.registers → Row n the_receiver K k r c ws line x t
      → ReceiveSoFar K r c.entry z c.did
  receive_cut K line z same row =
      let d = row_done the_receiver K line row in
      record {
        registers = subst (KeepsOtherRegisters c.entry.registers) same d.kept;
        word = d.taken;
        tail = d.place;
        seen = d.seen;
        among = d.among.0;
        aligned = d.among.1;
        found = d.found;
        left = d.left;
        accesses = d.all;
        inside = front_all (StaysInBlock r) c.did d.left (subst (All (StaysInBlock r)) (sym d.all) (receive_in r is d.place d.among.0 K d.taken d.seen));
      }
