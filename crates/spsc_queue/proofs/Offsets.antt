-- Offsets of slots, and the words that they name.
use Rattle.std.proofs.Math.Nat.{add-mod_right}
use Rattle.std.proofs.lemmas.Nat.{mod_below}
use Rattle.spsc_queue.proofs.Common.{ℕ, ◌+◌, ◌*◌, ◌%◌, ◌<◌, ◌≤◌, ◌≡◌, ◌≢◌, ◌⊎◌, inl, inr, if◌then◌else◌, sym, ◌∙◌, ap, arith, cases_lt, RingBuffer}
use Rattle.spsc_queue.proofs.Common.{IsRingBuffer, IsWordIn, slot_offset, slot_address, next}
use Rattle.step_machine.proofs.Modulo.{mod_apart, offset_step, offset_wrap}
use Rattle.spsc_queue.proofs.Cases.{by-test}

module _ (r : RingBuffer) (is : IsRingBuffer r) where
  pub offset_low : (j : ℕ) → slot_offset r j + 4 ≤ 4 * r.size
  offset_low j = let below : (r.start + j) % r.size < r.size = mod_below (r.start + j) r.size (omega (arith, is.some_slots)) in omega arith

  -- the slots of words that are near are apart
  offset_apart : (j k : ℕ) → j < k → k < j + r.size → slot_offset r j ≢ slot_offset r k
  offset_apart j k less near same = mod_apart r.size (r.start + j) (r.start + k) (omega (arith, is.some_slots)) (omega (arith, less)) (omega (arith, near))
      (omega (arith, same))

  pub slots_apart : (j k : ℕ) → j < k → k < j + r.size → (slot_address r j + 4 ≤ slot_address r k) ⊎ (slot_address r k + 4 ≤ slot_address r j)
  slots_apart j k less near = grind (arith, cases_lt, slot_offset, offset_apart)

  -- what lies off the slots lies off each
  pub slot_off : (a j : ℕ) → (a + 4 ≤ r.slots) ⊎ (r.slots + 4 * r.size ≤ a) → (a + 4 ≤ slot_address r j) ⊎ (slot_address r j + 4 ≤ a)
  slot_off a j apart = grind (arith, offset_low)

  -- the offset after that of word j
  pub next_offset : (u j : ℕ) → u ≡ slot_offset r j → next r u ≡ slot_offset r (j + 1)
  next_offset u j at = by-test (λ c. (if c then 0 else u + 4) ≡ slot_offset r (j + 1)) (u + 4) (4 * r.size)
      (λ full. sym (offset_wrap r.size (r.start + j) (omega (arith, is.some_slots)) (omega (arith, at, full))) ∙ on)
      (λ other. ap (λ y. y + 4) at ∙ offset_step r.size (r.start + j) (omega (arith, is.some_slots)) (λ e. other (omega (arith, at, e))) ∙ on)
    where
      on : 4 * ((r.start + j + 1) % r.size) ≡ slot_offset r (j + 1)
      on = ap (λ y. 4 * (y % r.size)) (omega arith)

  -- a whole size on is the same offset
  pub offset_again : (j k : ℕ) → k ≡ j + r.size → slot_offset r k ≡ slot_offset r j
  offset_again j k at =
      let on : r.start + k ≡ (r.start + j) + r.size = omega (arith, at) in ap (λ x. 4 * (x % r.size)) on ∙ ap (λ x. 4 * x) (add-mod_right (r.start + j) r.size)

  pub slot_word : (j : ℕ) → IsWordIn r (slot_address r j)
  slot_word j = record {
    above = omega (arith, is.slots_above);
    below = omega (arith, is.slots_below, offset_low j);
    aligned = omega (arith, is.slots_aligned);
    no_copy = λ c copy. elim (is.copy c copy).apart [
      | inl l ↦ inl (omega (arith, l))
      | inr l ↦ inr (omega (arith, l, offset_low j))
    ];
  }
