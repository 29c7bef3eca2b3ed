-- The stores of both lists, by their numbers: each is one of a whole word to the block.
use Rattle.std.proofs.Common.{ℕ, ◌+◌, ◌*◌, ◌<◌, ◌≡◌, length, Some, refl, arith}
use Rattle.std.specs.Prelude.{slice_index}
use Rattle.std.specs.List.{slice_get}
use Rattle.poll_close.specs.Invariant.Blocks.{SenderBlock, offset, slot, slot_store, tail_store}
use Rattle.poll_close.proofs.Windows.{Each, single_at, single_last, first_at, second_at, pair_last, singles-each, pairs-each}
use Rattle.poll_close.proofs.Blocks.{IsBlock, IsStore, offset_small, base_word, word_of, slot_of}
use Rattle.lamport_ring.specs.Invariant.{head_store, sender_stores, receiver_stores}

module _ (k : SenderBlock) where
  pub store_slot : (i n : ℕ) → i < length k.list → n ≡ 2 * i → slice_get (sender_stores k) n ≡ Some (slot k.size k.base i, slice_index k.list i)
  store_slot i n less at = first_at (slot_store k) (head_store k) (k.base + 4, 1) k.list i n less at

  pub store_head : (i n : ℕ) → i < length k.list → n ≡ 2 * i + 1 → slice_get (sender_stores k) n ≡ Some (k.base, offset k (i + 1))
  store_head i n less at = second_at (slot_store k) (head_store k) (k.base + 4, 1) k.list i n less at

  pub store_mark : (n : ℕ) → n ≡ 2 * length k.list → slice_get (sender_stores k) n ≡ Some (k.base + 4, 1)
  store_mark n at = pair_last (slot_store k) (head_store k) (k.base + 4, 1) k.list n at

  pub store_tail : (i n : ℕ) → i < length k.list → n ≡ i → slice_get (receiver_stores k) n ≡ Some (k.base + 8, offset k (i + 1))
  store_tail i n less at = single_at (tail_store k) (k.base + 12, 1) k.list i n less at

  pub store_done : (n : ℕ) → n ≡ length k.list → slice_get (receiver_stores k) n ≡ Some (k.base + 12, 1)
  store_done n at = single_last (tail_store k) (k.base + 12, 1) k.list n at

  pub sender_stores_are : IsBlock k → Each (IsStore k) (sender_stores k)
  sender_stores_are is = pairs-each (IsStore k) (slot_store k) (head_store k) (k.base + 4, 1) k.list (λ j less. (
    record { place = slot_of k is j; word = is.words j less },
    record { place = base_word k is; word = offset_small k is (j + 1) },
  )) (record { place = word_of k is 4 (omega arith) refl; word = omega arith })

  pub receiver_stores_are : IsBlock k → Each (IsStore k) (receiver_stores k)
  receiver_stores_are is = singles-each (IsStore k) (tail_store k) (k.base + 12, 1) k.list
      (λ j less. record { place = word_of k is 8 (omega arith) refl; word = offset_small k is (j + 1) })
      (record { place = word_of k is 12 (omega arith) refl; word = omega arith })
