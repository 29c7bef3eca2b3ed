-- The stores of both lists, by their numbers: each is one of a whole word to the block.
use Rattle.std.proofs.Common.{ℕ, ◌+◌, ◌*◌, ◌<◌, ◌≡◌, ◌≢◌, ◌⊎◌, inl, inr, length, Some, refl, ap, arith}
use Rattle.std.specs.Prelude.{slice_index}
use Rattle.std.specs.List.{slice_get}
use Rattle.std.proofs.Math.Nat.{add-mod_right}
use Rattle.poll_close.specs.Invariant.Blocks.{SenderBlock, offset, slot, slot_store, tail_store}
use Rattle.step_machine.proofs.Modulo.{mod_apart}
use Rattle.poll_close.proofs.Windows.{Each, single_at, single_last, first_at, second_at, pair_last, pair_is, singles-each, pairs-each}
use Rattle.poll_close.proofs.Blocks.{IsBlock, IsStore, offset_small, word_of, slot_of}
use Rattle.fastforward.specs.Invariant.{null_store, sender_stores, receiver_stores}

-- words less than a round apart have different slots, and a round on is the same slot
pub slots_apart : (S b i j : ℕ) → 0 < S → i < j → j < i + S → slot S b i ≢ slot S b j
slots_apart S b i j some less near same = mod_apart S i j some less near (omega arith)

pub slot-again : (S b j : ℕ) → slot S b (j + S) ≡ slot S b j
slot-again S b j = ap (λ n. b + 16 + 4 * n) (add-mod_right j S)

module _ (k : SenderBlock) where
  -- the sender's store i is word i, and its last the mark
  pub store_word : (i n : ℕ) → i < length k.list → n ≡ i → slice_get (sender_stores k) n ≡ Some (slot k.size k.base i, slice_index k.list i)
  store_word i n less at = single_at (slot_store k) (k.base + 4, 1) k.list i n less at

  pub store_mark : (n : ℕ) → n ≡ length k.list → slice_get (sender_stores k) n ≡ Some (k.base + 4, 1)
  store_mark n at = single_last (slot_store k) (k.base + 4, 1) k.list n at

  -- the address of the sender's store i
  pub word_at : (i : ℕ) (x : ℕ × ℕ) → slice_get (sender_stores k) i ≡ Some x → i < length k.list → x.0 ≡ slot k.size k.base i
  word_at i x is less =
      let at = store_word i i less refl in
      ap (λ (y : ℕ × ℕ). y.0) (let same : x ≡ (slot k.size k.base i, slice_index k.list i) = cc in same)

  -- the receiver's store 2 i is the null of word i, the one after it its tail, and its last the done word
  pub store_null : (i n : ℕ) → i < length k.list → n ≡ 2 * i → slice_get (receiver_stores k) n ≡ Some (slot k.size k.base i, 0)
  store_null i n less at = first_at (null_store k) (tail_store k) (k.base + 12, 1) k.list i n less at

  pub store_tail : (i n : ℕ) → i < length k.list → n ≡ 2 * i + 1 → slice_get (receiver_stores k) n ≡ Some (k.base + 8, offset k (i + 1))
  store_tail i n less at = second_at (null_store k) (tail_store k) (k.base + 12, 1) k.list i n less at

  pub store_done : (n : ℕ) → n ≡ 2 * length k.list → slice_get (receiver_stores k) n ≡ Some (k.base + 12, 1)
  store_done n at = pair_last (null_store k) (tail_store k) (k.base + 12, 1) k.list n at

  -- the address of store n: the tail, the done word, or the slot of the word of which it is the null
  abbrev pub Place : ℕ → ℕ → Type 0
  Place n a = (a ≡ k.base + 8) ⊎ (((a ≡ k.base + 12) × (n ≡ 2 * length k.list)) ⊎ ((t : ℕ) × (n ≡ 2 * t) × (a ≡ slot k.size k.base t)))

  pub place_at : (n : ℕ) (x : ℕ × ℕ) → slice_get (receiver_stores k) n ≡ Some x → Place n x.0
  place_at n x is =
      elim (pair_is (null_store k) (tail_store k) (k.base + 12, 1) k.list n x is) [
        | inl null ↦ inr (inr (null.0, null.2, ap (λ (y : ℕ × ℕ). y.0) null.3))
        | inr (inl tail) ↦ inl (ap (λ (y : ℕ × ℕ). y.0) tail.3)
        | inr (inr done) ↦ inr (inl (ap (λ (y : ℕ × ℕ). y.0) done.1, done.0))
      ]

  pub sender_stores_are : IsBlock k → Each (IsStore k) (sender_stores k)
  sender_stores_are is = singles-each (IsStore k) (slot_store k) (k.base + 4, 1) k.list
      (λ j less. record { place = slot_of k is j; word = is.words j less })
      (record { place = word_of k is 4 (omega arith) refl; word = omega arith })

  pub receiver_stores_are : IsBlock k → Each (IsStore k) (receiver_stores k)
  receiver_stores_are is = pairs-each (IsStore k) (null_store k) (tail_store k) (k.base + 12, 1) k.list (λ j less. (
    record { place = slot_of k is j; word = omega arith },
    record { place = word_of k is 8 (omega arith) refl; word = offset_small k is (j + 1) },
  )) (record { place = word_of k is 12 (omega arith) refl; word = omega arith })
