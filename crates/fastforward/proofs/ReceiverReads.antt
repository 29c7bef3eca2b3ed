-- What the receiver finds at a block's words: its own newest pending store, else the word of memory.
use Rattle.std.proofs.Common.{ℕ, zero, suc, ◌+◌, ◌*◌, ◌<◌, ◌≤◌, ◌≡◌, ◌≢◌, ◌⊎◌, inl, inr, length, Some, refl, sym, ◌∙◌, ap, arith}
use Rattle.std.specs.Prelude.{slice_index}
use Rattle.std.specs.List.{slice_get}
use Rattle.std.proofs.lemmas.Bool.{cases_lt, cases_eq}
use Rattle.poll_close.specs.{SenderBlock, offset, slot, unread_of}
use Rattle.poll_close.proofs.BlockLaws.{in_memory, none_pending, newest_found, last_found, found_in}
use Rattle.poll_close.proofs.Blocks.{IsBlock}
use Rattle.fastforward.specs.{fastforward_blocks, receiver_stores, Counters, nulls, taken_so_far, freed, CounterInvariant, Words}
use Rattle.fastforward.proofs.Stores.{slots_apart, slot-again, store_null, store_tail, store_done, Place, place_at}

module _ (k : SenderBlock) (n : Counters) (word : ℕ → ℕ) (order : CounterInvariant k n) (words : Words k n.landed word) where
  pub seen_mark : found_in (unread_of fastforward_blocks k n) word (k.base + 4) ≡ n.landed.mark
  seen_mark = in_memory (receiver_stores k) (freed n.landed) (taken_so_far n.receiver) word
      (k.base + 4) (λ t x from below got. differs t x (place_at k t x got)) ∙ words.mark
    where
      differs : (t : ℕ) (x : ℕ × ℕ) → Place k t x.0 → x.0 ≢ k.base + 4
      differs t x (inl tail) same = omega arith
      differs t x (inr (inl done)) same = omega (arith, done.0)
      differs t x (inr (inr null)) same = omega (arith, null.2)

  pub seen_tail : nulls n.receiver ≡ n.receiver.tails → n.receiver.done ≡ 0
      → found_in (unread_of fastforward_blocks k n) word (k.base + 8) ≡ offset k n.receiver.tails
  seen_tail level on = at n.receiver.tails refl (cases_lt n.landed.tails n.receiver.tails)
    where
      at : (c : ℕ) → c ≡ n.receiver.tails
          → (n.landed.tails < n.receiver.tails) ⊎ (n.receiver.tails ≤ n.landed.tails)
          → found_in (unread_of fastforward_blocks k n) word (k.base + 8) ≡ offset k n.receiver.tails
      at c is (inr none) =
          let same : n.landed.tails ≡ n.receiver.tails = omega (arith, order.tails_landed) in
          none_pending (receiver_stores k) (freed n.landed) (taken_so_far n.receiver) word
          (k.base + 8) (omega (arith, same, level, on, order.tail_after)) ∙ words.tail ∙ ap (offset k) same
      at zero is (inl some) = absurd (omega arith)
      at (suc c) is (inl some) =
          let next : c + 1 ≡ n.receiver.tails = omega arith in
          last_found (receiver_stores k) (freed n.landed) (taken_so_far n.receiver) word
          (k.base + 8) (offset k (c + 1)) (2 * c + 1) (omega (arith, level, on, is))
          (omega (arith, is, some, on, order.done_landed, order.null_before))
          (store_tail k c (2 * c + 1)
          (omega (arith, is, order.tails_nulls, order.nulls_slots, order.slots_landed, order.stored_all)) refl)
          ∙ ap (offset k) next

  pub seen_done : found_in (unread_of fastforward_blocks k n) word (k.base + 12) ≡ n.receiver.done
  seen_done = at (cases_eq n.receiver.done 0) (cases_eq n.landed.done 0)
    where
      nulls_all : nulls n.receiver ≤ length k.list
      nulls_all = omega (arith, order.nulls_slots, order.slots_landed, order.stored_all)

      differs : (t : ℕ) (x : ℕ × ℕ) → t < 2 * length k.list → Place k t x.0 → x.0 ≢ k.base + 12
      differs t x below (inl tail) same = omega arith
      differs t x below (inr (inl done)) same = omega (arith, below, done.1)
      differs t x below (inr (inr null)) same = omega (arith, null.2)

      at : (n.receiver.done ≡ 0) ⊎ (n.receiver.done ≢ 0) → (n.landed.done ≡ 0) ⊎ (n.landed.done ≢ 0)
          → found_in (unread_of fastforward_blocks k n) word (k.base + 12) ≡ n.receiver.done
      at (inl none) kd =
          in_memory (receiver_stores k) (freed n.landed) (taken_so_far n.receiver) word (k.base + 12)
          (λ t x from below got. differs t x (omega (arith, below, none, nulls_all, order.tails_nulls))
          (place_at k t x got))
          ∙ words.done ∙ (let same : n.landed.done ≡ n.receiver.done = omega (arith, order.done_landed) in same)
      at (inr one) (inr landed) =
          let all : n.landed.tails ≡ length k.list = order.all_landed (omega (arith, landed)) in
          none_pending (receiver_stores k) (freed n.landed) (taken_so_far n.receiver) word (k.base + 12)
          (omega (arith, all, landed, nulls_all, order.tails_nulls, order.tail_after, order.done_one)) ∙ words.done
          ∙
          (let same : n.landed.done ≡ n.receiver.done = omega (arith, order.done_landed, order.done_one, landed) in
          same)
      at (inr one) (inl pending) =
          let all : n.receiver.tails ≡ length k.list = order.done_all (omega (arith, one)) in
          last_found (receiver_stores k) (freed n.landed) (taken_so_far n.receiver) word (k.base + 12) 1 (2 * length k.list)
          (omega (arith, all, one, nulls_all, order.tails_nulls, order.done_one))
          (omega (arith, all, pending, nulls_all, order.nulls_landed, order.tails_landed))
          (store_done k (2 * length k.list) refl)
          ∙ (let same : 1 ≡ n.receiver.done = omega (arith, order.done_one, one) in same)

  -- a null before that of the next word, less than a round, goes to another slot
  elsewhere : IsBlock k → (t : ℕ) (x : ℕ × ℕ) → t < 2 * n.receiver.tails
      → ((s : ℕ) → t ≡ 2 * s → n.receiver.tails < s + k.size) → Place k t x.0 → x.0 ≢ slot k.size k.base n.receiver.tails
  elsewhere is t x below near (inl tail) same = omega arith
  elsewhere is t x below near (inr (inl done)) same = omega (arith, done.0)
  elsewhere is t x below near (inr (inr null)) same = slots_apart k.size k.base null.0 n.receiver.tails is.some_slot
      (omega (arith, null.1, below)) (near null.0 null.1) (sym null.2 ∙ same)

  slot_in_memory : IsBlock k → nulls n.receiver ≡ n.receiver.tails → n.receiver.done ≡ 0
      → n.receiver.tails < n.landed.nulls + k.size
      → found_in (unread_of fastforward_blocks k n) word (slot k.size k.base n.receiver.tails)
      ≡ word (slot k.size k.base n.receiver.tails)
  slot_in_memory is level on near = in_memory (receiver_stores k) (freed n.landed) (taken_so_far n.receiver) word
      (slot k.size k.base n.receiver.tails)
      (λ t x from below got. elsewhere is t x (omega (arith, below, level, on))
      (λ s twice. omega (arith, from, twice, near, order.null_before)) (place_at k t x got))

  -- where each null has its tail: the next word if it has landed, else 0
  pub seen_word : IsBlock k → nulls n.receiver ≡ n.receiver.tails → n.receiver.done ≡ 0
      → n.receiver.tails < n.landed.slots
      → found_in (unread_of fastforward_blocks k n) word (slot k.size k.base n.receiver.tails)
      ≡ slice_index k.list n.receiver.tails
  seen_word is level on more = slot_in_memory is level on (omega (arith, more, order.slots_landed, order.room))
      ∙ words.full n.receiver.tails (omega (arith, level, order.nulls_landed)) more

  pub seen_none : IsBlock k → nulls n.receiver ≡ n.receiver.tails → n.receiver.done ≡ 0
      → n.landed.slots ≤ n.receiver.tails
      → found_in (unread_of fastforward_blocks k n) word (slot k.size k.base n.receiver.tails) ≡ 0
  seen_none is level on none = at (cases_lt n.receiver.tails (n.landed.nulls + k.size))
    where
      at : (n.receiver.tails < n.landed.nulls + k.size) ⊎ (n.landed.nulls + k.size ≤ n.receiver.tails)
          → found_in (unread_of fastforward_blocks k n) word (slot k.size k.base n.receiver.tails) ≡ 0
      at (inl near) = slot_in_memory is level on near ∙ words.empty n.receiver.tails none near
      at (inr far) =
          let round : n.receiver.tails ≡ n.landed.nulls + k.size = omega (arith, far, level, order.nulls_slots, order.slots_landed, order.room) in
          let here : slot k.size k.base n.landed.nulls ≡ slot k.size k.base n.receiver.tails =
          sym (ap (slot k.size k.base) round ∙ slot-again k.size k.base n.landed.nulls) in
          let store : slice_get (receiver_stores k) (2 * n.landed.nulls)
          ≡ Some (slot k.size k.base n.receiver.tails, 0) =
          store_null k n.landed.nulls (2 * n.landed.nulls)
          (omega (arith, round, is.some_slot, order.tails_nulls, order.nulls_slots, order.slots_landed, order.stored_all))
          refl ∙ ap (λ a. Some (a, 0)) here in
          newest_found (receiver_stores k) (freed n.landed) (taken_so_far n.receiver) word
          (slot k.size k.base n.receiver.tails) 0 (2 * n.landed.nulls) (omega (arith, on, order.tail_after, order.done_landed))
          (omega (arith, round, level, is.some_slot)) store
          (λ t x more below got. elsewhere is t x (omega (arith, below, level, on))
          (λ s twice. omega (arith, more, twice, round)) (place_at k t x got))
