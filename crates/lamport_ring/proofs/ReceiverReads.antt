-- What the receiver finds at a block's words: its own newest pending store, else the word of memory.
use Rattle.std.proofs.Common.{ℕ, zero, suc, ◌+◌, ◌<◌, ◌≤◌, ◌≡◌, ◌≢◌, ◌⊎◌, inl, inr, List, length, Some, refl, sym, ◌∙◌, ap, arith}
use Rattle.std.specs.Prelude.{slice_index}
use Rattle.std.specs.List.{slice_get}
use Rattle.std.proofs.lemmas.Bool.{cases_lt, cases_eq}
use Rattle.poll_close.specs.Invariant.Blocks.{SenderBlock, offset, slot, tail_store, window}
use Rattle.poll_close.proofs.Windows.{singles-each}
use Rattle.poll_close.proofs.BlockLaws.{found_in, in_memory, none_pending, last_found}
use Rattle.lamport_ring.specs.Invariant.{receiver_stores, Counters, CounterInvariant, Words, freed, taken_so_far}
use Rattle.lamport_ring.proofs.Stores.{store_tail, store_done}

-- a tail store is none to the done word
none_done : (k : SenderBlock) (t : ℕ) (x : ℕ × ℕ) → t < length k.list → slice_get (receiver_stores k) t ≡ Some x → x.0 ≢ k.base + 12
none_done k t x less got same = grind (arith, store_tail)

module _ (k : SenderBlock) (n : Counters) (word : ℕ → ℕ) (order : CounterInvariant k n) (words : Words k n.landed word) where
  -- the receiver's pending stores to the block
  abbrev unread : List (ℕ × ℕ)
  unread = window (receiver_stores k) (freed n.landed) (taken_so_far n.receiver)

  seen_none : (a : ℕ) → a ≢ k.base + 8 → a ≢ k.base + 12 → found_in unread word a ≡ word a
  seen_none a tail done = in_memory (receiver_stores k) (freed n.landed) (taken_so_far n.receiver) word a
      (λ t x from below. singles-each (λ y. y.0 ≢ a) (tail_store k) (k.base + 12, 1) k.list
      (λ j less same. tail (sym same)) (λ same. done (sym same)) t x)

  pub seen_mark : found_in unread word (k.base + 4) ≡ n.landed.mark
  seen_mark = seen_none (k.base + 4) (λ h. omega arith) (λ h. omega arith) ∙ words.mark

  pub seen_head : found_in unread word k.base ≡ offset k n.landed.heads
  seen_head = seen_none k.base (λ h. omega arith) (λ h. omega arith) ∙ words.head

  pub seen_slot : n.receiver.tails < n.landed.slots
      → found_in unread word (slot k.size k.base n.receiver.tails)
      ≡ slice_index k.list n.receiver.tails
  seen_slot more = seen_none (slot k.size k.base n.receiver.tails) (λ h. omega arith) (λ h. omega arith) ∙ words.slots n.receiver.tails (omega arith) more

  within : n.receiver.tails ≤ length k.list
  within = omega (arith, order.tails_seen, order.seen_heads, order.heads_slots, order.slots_landed, order.stored_all)

  pub seen_tail : n.receiver.done ≡ 0 → found_in unread word (k.base + 8) ≡ offset k n.receiver.tails
  seen_tail on = at n.receiver.tails refl (cases_lt n.landed.tails n.receiver.tails)
    where
      at : (c : ℕ) → c ≡ n.receiver.tails
          → (n.landed.tails < n.receiver.tails) ⊎ (n.receiver.tails ≤ n.landed.tails)
          → found_in unread word (k.base + 8) ≡ offset k n.receiver.tails
      at c is (inr none) =
          let same : n.landed.tails ≡ n.receiver.tails = omega (arith, order.tails_landed) in
          none_pending (receiver_stores k) (freed n.landed) (taken_so_far n.receiver) word (k.base + 8)
          (omega arith) ∙ words.tail ∙ ap (offset k) same
      at zero is (inl some) = absurd (omega arith)
      at (suc c) is (inl some) =
          let next : c + 1 ≡ n.receiver.tails = omega arith in
          last_found (receiver_stores k) (freed n.landed) (taken_so_far n.receiver) word (k.base + 8) (offset k (c + 1)) c
          (omega arith) (omega (arith, order.done_landed)) (store_tail k c c (omega (arith, within)) refl)
          ∙ ap (offset k) next

  pub seen_done : found_in unread word (k.base + 12) ≡ n.receiver.done
  seen_done = at (cases_eq n.receiver.done 0) (cases_eq n.landed.done 0)
    where
      at : (n.receiver.done ≡ 0) ⊎ (n.receiver.done ≢ 0) → (n.landed.done ≡ 0) ⊎ (n.landed.done ≢ 0)
          → found_in unread word (k.base + 12) ≡ n.receiver.done
      at (inl none) kd =
          in_memory (receiver_stores k) (freed n.landed) (taken_so_far n.receiver) word (k.base + 12)
          (λ t x from below. none_done k t x (omega (arith, below, none, within)))
          ∙ words.done ∙ (let same : n.landed.done ≡ n.receiver.done = omega (arith, order.done_landed) in same)
      at (inr one) (inr landed) =
          let some : 0 < n.landed.done = omega arith in
          let all : n.landed.tails ≡ length k.list = order.all_landed some in
          none_pending (receiver_stores k) (freed n.landed) (taken_so_far n.receiver) word (k.base + 12)
          (omega (arith, within, order.done_one)) ∙ words.done
          ∙ (let same : n.landed.done ≡ n.receiver.done = omega (arith, order.done_landed, order.done_one) in same)
      at (inr one) (inl pending) =
          let some : 0 < n.receiver.done = omega arith in
          let all : n.receiver.tails ≡ length k.list = order.done_all some in
          last_found (receiver_stores k) (freed n.landed) (taken_so_far n.receiver) word (k.base + 12) 1 n.receiver.tails
          (omega (arith, order.done_one)) (omega (arith, order.tails_landed)) (store_done k n.receiver.tails all)
          ∙ (let same : 1 ≡ n.receiver.done = omega (arith, order.done_one) in same)
