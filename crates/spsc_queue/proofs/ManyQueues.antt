-- Several queues at once: where blocks don't meet, a call for one stays off the others, so each queue is used rightly.
use Rattle.spsc_queue.proofs.Common.{ℕ, zero, suc, ◌+◌, ◌*◌, ◌<◌, ◌≤◌, ◌≡◌, ◌≢◌, ◌⊎◌, inl, inr, Option, Some, None, Bool, true, false, List, [], ◌∷◌, ◌++◌}
use Rattle.spsc_queue.proofs.Common.{refl, sym, ◌∙◌, subst, arith, append-nil, append_assoc, cases_eq, nat_tests, Write, Entry, OpeningValue, Access, store}
use Rattle.spsc_queue.proofs.Common.{exchange, access_of, hart_of, is_land, Kind, lamport, fastforward, RingBuffer, overlaps, SenderState, renewing, roomy}
use Rattle.spsc_queue.proofs.Common.{filled, ReceiverState, holding, cleared, ProtocolState, WritesNothingTo, IsCopyStore, IsSenderStore, IsReceiverStore}
use Rattle.spsc_queue.proofs.Common.{parties_after, Block, SpscQueue, party_hart, copy_in, ring_at, buffer, is_sender_in_call, is_receiver_in_call}
use Rattle.spsc_queue.proofs.Common.{CallerObligation, UsesAsSpscQueue}
use Rattle.spsc_queue.specs.Protocol.{IsTaking}
use Rattle.spsc_queue.specs.Calls.{Party, the_sender, the_receiver}
use Rattle.spsc_queue.specs.ManyQueues.{IsIdle, UsesManyQueues}
use Rattle.spsc_queue.proofs.Outline.{part, IsOffset, IsNear, IsFit, Near, Does}
use Rattle.spsc_queue.proofs.Parts.{copied}
use Rattle.spsc_queue.proofs.OwnEntries.{land_is}
use Rattle.spsc_queue.proofs.Parties.{is_busy, which, other_hart}
use Rattle.spsc_queue.proofs.Calls.{Stand, stands_on, stands_at_start, party_does}

-- a store within another block
abbrev IsApart : Block → RingBuffer → Type 0
IsApart k r = (k.base + 128 + 4 * k.size ≤ r.first) ⊎ (r.end ≤ k.base)

elsewhere : (k : Block) (r : RingBuffer) (w : Write) → IsApart k r → k.base ≤ w.addr → w.addr + w.width ≤ k.base + 128 + 4 * k.size → overlaps r w ≡ false
elsewhere k r w (inl below) from upto = grind (arith, nat_tests)
elsewhere k r w (inr above) from upto = grind (arith, nat_tests)

module _ (K : Kind) (k : Block) (a b : ℕ) (r : RingBuffer) (apart : IsApart k r) where
  sent_off : (w : Write) (p : SenderState) → IsNear k p → IsSenderStore K (ring_at k a b) p w → overlaps r w ≡ false
  sent_off w (renewing u v) near does = at (copy_in k.kind k.caches k.base) refl does
    where
      at : (o : Option ℕ) → copy_in k.kind k.caches k.base ≡ o → IsCopyStore o v w → overlaps r w ≡ false
      at None none does = absurd does
      at (Some d) some does =
          let place = copied k d some in
          elsewhere k r w apart (omega (arith, does.0.place, place)) (omega (arith, does.0.place, does.0.width, place))
  sent_off w (roomy u) near does = elsewhere k r w apart (omega (arith, does.0.place)) (omega (arith, does.0.place, does.0.width, near.0))
  sent_off w (filled u) near does = elsewhere k r w apart (omega (arith, does.0.place)) (omega (arith, does.0.place, does.0.width))
  sent_off w p near does = absurd does

  taken_off : (K : Kind) (w : Write) (u : ℕ) → IsOffset k u → IsTaking K (ring_at k a b) u w → overlaps r w ≡ false
  taken_off lamport w u near does = elsewhere k r w apart (omega (arith, does.0.place)) (omega (arith, does.0.place, does.0.width))
  taken_off fastforward w u near does = elsewhere k r w apart (omega (arith, does.0.place)) (omega (arith, does.0.place, does.0.width, near.0))

  freed_off : (w : Write) (p : ReceiverState) → IsFit k p → IsReceiverStore K (ring_at k a b) p w → overlaps r w ≡ false
  freed_off w (holding u v) near does = taken_off K w u near does
  freed_off w (cleared u) near does = elsewhere k r w apart (omega (arith, does.0.place)) (omega (arith, does.0.place, does.0.width))
  freed_off w p near does = absurd does

  call_off : (p : Party) (t : ProtocolState) (x : Access) → Does p K (ring_at k a b) t x × Near k (part p t) → WritesNothingTo r x
  call_off the_sender t (store w) does = sent_off w t.sending does.1.sending does.0
  call_off the_receiver t (store w) does = freed_off w t.receiving does.1.receiving does.0
  call_off p t (exchange c old new) does = absurd does.0
  call_off p t x does = tt

module _ (B M : ℕ) (o : OpeningValue) (count : ℕ) (queues : ℕ → SpscQueue) (before es : List Entry) (c : UsesManyQueues B M o count queues before es) where
  abbrev AllStand : List Entry → Type 0
  AllStand done = (i : ℕ) (less : i < count) → Stand B M o (queues i) before es (c.shares i less) done

  -- the entry's hart is in a call for queue j
  abbrev Busy : Entry → List Entry → ℕ → Type 0
  Busy e done j = (p : Party) × (hart_of e ≡ party_hart (queues j) p) × (is_busy M o (queues j) p before done ≡ true)

  busy_or : (e : Entry) (done : List Entry) (j : ℕ) → Busy e done j ⊎ IsIdle M o (queues j) (hart_of e) before done
  busy_or e done j = at (one the_sender) (one the_receiver)
    where
      one : (p : Party) → Busy e done j ⊎ (hart_of e ≡ party_hart (queues j) p → is_busy M o (queues j) p before done ≡ false)
      one p = by (cases_eq (hart_of e) (party_hart (queues j) p)) (is_busy M o (queues j) p before done) refl
        where
          by : (hart_of e ≡ party_hart (queues j) p) ⊎ (hart_of e ≢ party_hart (queues j) p) → (b : Bool) → is_busy M o (queues j) p before done ≡ b
              → Busy e done j ⊎ (hart_of e ≡ party_hart (queues j) p → is_busy M o (queues j) p before done ≡ false)
          by (inl mine) true on = inl (p, mine, on)
          by (inl mine) false off = inr (λ h. off)
          by (inr other) b is = inr (λ h. absurd (other h))

      at : Busy e done j ⊎ (hart_of e ≡ (queues j).sender → is_sender_in_call M o (queues j) before done ≡ false)
          → Busy e done j ⊎ (hart_of e ≡ (queues j).receiver → is_receiver_in_call M o (queues j) before done ≡ false)
          → Busy e done j ⊎ IsIdle M o (queues j) (hart_of e) before done
      at (inl busy) r = inl busy
      at (inr s) (inl busy) = inl busy
      at (inr s) (inr r) = inr (record { sender = s; receiver = r })

  -- it is in one for some queue, or in none
  some_busy : (e : Entry) (done : List Entry) (n : ℕ) → n ≤ count
      → ((j : ℕ) × (j < count) × Busy e done j) ⊎ ((j : ℕ) → j < n → IsIdle M o (queues j) (hart_of e) before done)
  some_busy e done zero le = inr (λ j less. absurd (omega arith))
  some_busy e done (suc n) le = at (busy_or e done n) (some_busy e done n (omega arith))
    where
      at : Busy e done n ⊎ IsIdle M o (queues n) (hart_of e) before done
          → ((j : ℕ) × (j < count) × Busy e done j) ⊎ ((j : ℕ) → j < n → IsIdle M o (queues j) (hart_of e) before done)
          → ((j : ℕ) × (j < count) × Busy e done j) ⊎ ((j : ℕ) → j < suc n → IsIdle M o (queues j) (hart_of e) before done)
      at (inl busy) rest = inl (n, omega arith, busy)
      at (inr free) (inl some) = inl some
      at (inr free) (inr none) = inr (λ j less. elim (cases_eq j n) [
        | inl same ↦ subst (λ x. IsIdle M o (queues x) (hart_of e) before done) (sym same) free
        | inr other ↦ none j (omega arith)
      ])

  module _ (done : List Entry) (e : Entry) (more : List Entry) (is : es ≡ done ++ e ∷ more) (all : AllStand done) where
    -- an act of a hart that is in no call for queue i stays off it: by a call for another queue, or by what its program owes
    stays_off : (i : ℕ) → i < count → is_land e ≡ false → (Busy e done i → ⊥) → WritesNothingTo (buffer (queues i)) (access_of e)
    stays_off i less act free = at (some_busy e done count (omega arith))
      where
        by_call : (j : ℕ) → j < count → j ≢ i → Busy e done j → WritesNothingTo (buffer (queues i)) (access_of e)
        by_call j there other busy =
            call_off (queues j).block.kind (queues j).block (queues j).sender (queues j).receiver (buffer (queues i)) (c.apart j i there less other) busy.0
            (parties_after (buffer (queues j)) o before done) (access_of e)
            (party_does B M o (queues j) before es (c.shares j there) done e more is (all j there) busy.0 busy.1 act busy.2)

        at : ((j : ℕ) × (j < count) × Busy e done j) ⊎ ((j : ℕ) → j < count → IsIdle M o (queues j) (hart_of e) before done)
            → WritesNothingTo (buffer (queues i)) (access_of e)
        at (inr none) = (c.owed done e more is).stays_off none i less
        at (inl some) = elim (cases_eq some.0 i) [
          | inl same ↦ absurd (free (subst (Busy e done) same some.2))
          | inr other ↦ by_call some.0 some.1 other some.2
        ]

    owed_at : (i : ℕ) → i < count → CallerObligation M o (queues i) before done e
    owed_at i less = record {
      sender = λ mine act s at off. (stays_off i less act (not_busy the_sender mine off), (c.owed done e more is).senders i less mine act s at off);
      receiver = λ mine act s at off. (stays_off i less act (not_busy the_receiver mine off), (c.owed done e more is).receivers i less mine act s at off);
      others = λ not_a not_b. other_stays not_a not_b (is_land e) refl;
    }
      where
        not_busy : (p : Party) → hart_of e ≡ party_hart (queues i) p → is_busy M o (queues i) p before done ≡ false → Busy e done i → ⊥
        not_busy p mine off busy = elim (which p busy.0) [
          | inl same ↦ let no : false ≡ true = sym off ∙ subst (λ g. is_busy M o (queues i) g before done ≡ true) (sym same) busy.2 in cc
          | inr other ↦ other_hart (queues i) (c.shares i less).parties p busy.0 other (sym mine ∙ busy.1)
        ]

        neither : hart_of e ≢ (queues i).sender → hart_of e ≢ (queues i).receiver → Busy e done i → ⊥
        neither not_a not_b (the_sender, mine, on) = not_a mine
        neither not_a not_b (the_receiver, mine, on) = not_b mine

        other_stays : hart_of e ≢ (queues i).sender → hart_of e ≢ (queues i).receiver → (l : Bool) → is_land e ≡ l
            → WritesNothingTo (buffer (queues i)) (access_of e)
        other_stays not_a not_b true landed = subst (WritesNothingTo (buffer (queues i))) (sym (land_is (access_of e) landed)) tt
        other_stays not_a not_b false act = stays_off i less act (neither not_a not_b)

    all_on : AllStand (done ++ e ∷ [])
    all_on i less = stands_on B M o (queues i) before es (c.shares i less) done e more is (all i less) (owed_at i less)

  all-from : (done part rest : List Entry) → es ≡ done ++ (part ++ rest) → AllStand done → AllStand (done ++ part)
  all-from done [] rest is all = subst AllStand (sym (append-nil done)) all
  all-from done (e ∷ part) rest is all = subst AllStand (append_assoc done (e ∷ []) part)
      (all-from (done ++ e ∷ []) part rest (is ∙ sym (append_assoc done (e ∷ []) (part ++ rest))) (all_on done e (part ++ rest) is all))

  all-at : (done rest : List Entry) → es ≡ done ++ rest → AllStand done
  all-at done rest is = all-from [] done rest is (λ i less. stands_at_start B M o (queues i) before es (c.shares i less))

  -- each of the queues is used rightly
  pub each_is_used : (i : ℕ) → i < count → UsesAsSpscQueue B M o (queues i) before es
  each_is_used i less = record {
    shares = c.shares i less;
    owed = λ done e more is. owed_at done e more is (all-at done (e ∷ more) is) i less;
  }
