-- What Lamport's sender knows after a load, whichever word it loads.
use Rattle.spsc_queue.proofs.Common.{ℕ, ◌+◌, ◌≡◌, ◌≢◌, ◌≤◌, ◌==◌, if◌then◌else◌, Option, Some, None, List, refl, sym, ◌∙◌, ap, subst, arith, Entry}
use Rattle.spsc_queue.proofs.Common.{OpeningValue, read, lamport, RingBuffer, IsRingBuffer, slot_offset, next, SenderState, resting, placed, renewing, roomy}
use Rattle.spsc_queue.proofs.Common.{filled, looks_for_room, looks_past_copy, looks_at, send_look, send_load, ready_by_state}
use Rattle.spsc_queue.proofs.Offsets.{next_offset, offset_again}
use Rattle.spsc_queue.proofs.Copies.{Copied, copied-more}
use Rattle.spsc_queue.proofs.States.{IsPlaced, level-counts}
use Rattle.spsc_queue.proofs.Cases.{by-test, by-send-load}

-- its place, where it knows of n freed slots
abbrev pub SendingIs : RingBuffer → (stored published n : ℕ) → SenderState → Type 0
SendingIs r stored published n resting = stored ≡ published
SendingIs r stored published n (placed u) = (stored ≡ published) × (u ≡ slot_offset r published)
SendingIs r stored published n (renewing u v) =
    (stored ≡ published) × (u ≡ slot_offset r published) × ((j : ℕ) × (v ≡ slot_offset r j) × (stored + 2 ≤ j) × (j ≤ n + r.size))
SendingIs r stored published n (roomy u) = (stored ≡ published) × (u ≡ slot_offset r published) × (stored + 2 ≤ n + r.size)
SendingIs r stored published n (filled u) = (stored ≡ published + 1) × (u ≡ slot_offset r published)

pub sending-more : (r : RingBuffer) (stored published n m : ℕ) (p : SenderState) → n ≤ m → SendingIs r stored published n p → SendingIs r stored published m p
sending-more r stored published n m (renewing x v) le h = (h.0, h.1, (h.2.0, h.2.1, h.2.2, omega (arith, le, h.2.3)))
sending-more r stored published n m (roomy x) le h = (h.0, h.1, omega (arith, le, h.2))
sending-more r stored published n m p le h = h

pub placed-of : (r : RingBuffer) (stored published n : ℕ) (p : SenderState) → SendingIs r stored published n p → IsPlaced r stored published p
placed-of r stored published n (renewing u v) h = (h.0, h.1)
placed-of r stored published n (roomy u) h = (h.0, h.1)
placed-of r stored published n p h = h

-- the sender knows of k freed slots, and of l after it, where the tail in memory is that after m

module _ (r : RingBuffer) (is : IsRingBuffer r) (o : OpeningValue) (es : List Entry) (stored published k l m a v : ℕ) (is_read : v ≡ read o es r.sender a 4)
    (head : read o es r.sender r.head 4 ≡ slot_offset r published) (tail : a ≡ r.tail → (l ≡ m) × (v ≡ slot_offset r m)) (more : k ≤ l)
    (room : stored + 1 ≤ m + r.size) where
  abbrev SendsBy : ℕ → SenderState → Type 0
  SendsBy n p = SendingIs r stored published n p × Copied lamport r.copy r o es (stored + ready_by_state p) n

  raised : (p : SenderState) → SendsBy k p → SendsBy l p
  raised p holds = (
    sending-more r stored published k l p more holds.0,
    copied-more lamport r.copy r o es (stored + ready_by_state p) k
        (stored + ready_by_state p) l (omega arith) more holds.1,
  )

  -- the tail says that there is room
  far : (u : ℕ) → u ≡ slot_offset r published → v ≡ slot_offset r m → v ≢ next r u → published + 1 ≢ m + r.size
  far u at is_tail other full = other (is_tail ∙ sym (offset_again r is m (published + 1) full) ∙ sym (next_offset r is u published at))

  tail-says : (u : ℕ) → r.copy ≡ None → a ≡ r.tail → (stored ≡ published) × (u ≡ slot_offset r published) → SendsBy l (looks_for_room lamport r u v)
  tail-says u none here holds = by-test (λ c. SendsBy l (if c then placed u else roomy u)) v (next r u) (λ same. (holds, copy (stored + 0))) (λ other.
      (let apart = far u holds.1 (tail here).1 other in ((holds.0, holds.1, omega (arith, apart, room, holds.0, (tail here).0)), copy (stored + 1))))
    where
      copy : (n : ℕ) → Copied lamport r.copy r o es n l
      copy n = subst (λ q. Copied lamport q r o es n l) (sym none) tt

  -- so does the tail where a copy is to be made of it, and the copy
  past-copy-says : (u : ℕ) → a ≡ r.tail → SendsBy k (placed u) → SendsBy l (looks_past_copy lamport r u v)
  past-copy-says u here holds = by-test (λ c. SendsBy l (if c then placed u else renewing u v)) v (next r u) (λ same. raised (placed u) holds) (λ other.
      (let at = tail here in
      let apart = far u holds.0.1 at.1 other in (
        (
          holds.0.0,
          holds.0.1,
          (m + r.size, at.1 ∙ sym (offset_again r is m (m + r.size) refl), omega (arith, apart, room, holds.0.0), omega (arith, at.0)),
        ),
        (raised (placed u) holds).1,
      )))

  copy-says : (u c : ℕ) → r.copy ≡ Some c → a ≡ c → (stored ≡ published) × (u ≡ slot_offset r published)
      → Copied lamport (Some c) r o es (stored + 0) k → SendsBy k (looks_for_room lamport r u v)
  copy-says u c some here holds copy = by-test (λ b. SendsBy k (if b then placed u else roomy u)) v (next r u)
      (λ same. (holds, subst (λ q. Copied lamport q r o es (stored + 0) k) (sym some) copy)) (λ other.
      (let further : copy.place ≢ published + 1 = λ e. other
      (is_read ∙ ap (λ x. read o es r.sender x 4) here ∙ copy.own.reads ∙ ap (slot_offset r) e ∙ sym (next_offset r is u published holds.1)) in (
        (holds.0, holds.1, omega (arith, further, copy.low, copy.high, holds.0)),
        subst (λ q. Copied lamport q r o es (stored + 1) k) (sym some) (record {
          place = copy.place;
          own = copy.own;
          low = omega (arith, further, copy.low, holds.0);
          high = copy.high;
        }),
      )))

  looks : (u : ℕ) (q : Option ℕ) → r.copy ≡ q → SendsBy k (placed u) → SendsBy l (looks_at q lamport r a u v)
  looks u None none holds = by-test (λ b. SendsBy l (if b then looks_for_room lamport r u v else placed u)) a r.tail
      (λ here. tail-says u none here holds.0) (λ apart. raised (placed u) holds)
  looks u (Some c) some holds =
      by-test (λ b. SendsBy l (if b then looks_for_room lamport r u v else (if a == r.tail then looks_past_copy lamport r u v else placed u))) a c
      (λ here. raised (looks_for_room lamport r u v)
      (copy-says u c some here holds.0 (subst (λ q. Copied lamport q r o es (stored + 0) k) some holds.1)))
      (λ other. by-test (λ b. SendsBy l (if b then looks_past_copy lamport r u v else placed u)) a r.tail
      (λ here. past-copy-says u here holds) (λ apart. raised (placed u) holds))

  send-looked : (p : SenderState) → SendsBy k p → SendsBy l (send_look lamport r a v p)
  send-looked (placed u) holds = looks u r.copy refl holds
  send-looked p holds = raised p holds

  pub knows-more : (p : SenderState) → SendsBy k p → SendsBy l (send_load lamport r a v p)
  knows-more p holds = by-send-load lamport r a v (SendsBy l) p (λ level here. (
    (level-counts r stored published p level (placed-of r stored published k p holds.0), is_read ∙ ap (λ x. read o es r.sender x 4) here ∙ head),
    copied-more lamport r.copy r o es (stored + ready_by_state p) k (stored + 0) l (omega arith) more holds.1,
  )) (send-looked p holds)
