-- The words of a block, and its numbers, after a store has landed.
use Rattle.std.proofs.Common.{ℕ, suc, ◌+◌, ◌<◌, ◌≤◌, ◌≡◌, ◌≢◌, ◌⊎◌, inl, inr, length, Some, refl, sym, ◌∙◌, ap, arith}
use Rattle.std.specs.Prelude.{slice_index}
use Rattle.std.specs.List.{slice_get}
use Rattle.std.proofs.lemmas.Bool.{cases_lt, cases_eq}
use Rattle.poll_close.specs.Invariant.Blocks.{SenderBlock, offset, slot}
use Rattle.poll_close.proofs.Blocks.{IsWrite, hit, miss, same_write, IsBlock}
use Rattle.poll_close.proofs.BlockLaws.{Lands}
use Rattle.fastforward.specs.{fastforward_blocks, sender_stores, receiver_stores, Counters, sent, gone, nulls, taken_so_far, freed, CounterInvariant, Words}
use Rattle.fastforward.proofs.Stores.{slots_apart, slot-again, store_word, store_mark, store_null, store_tail, store_done}

-- a store of the sender
module _ (k : SenderBlock) (is : IsBlock k) (n : Counters) (order : CounterInvariant k n) (word new : ℕ → ℕ) (words : Words k n.landed word) where
  word_lands : n.landed.slots < n.sender.stored
      → IsWrite word new (slot k.size k.base n.landed.slots, slice_index k.list n.landed.slots)
      → Lands fastforward_blocks k n new (suc (gone n.landed)) (freed n.landed)
  word_lands some write =
      record {
        after = record n.landed { slots = n.landed.slots + 1 };
        order = (omega (arith, some));
        words = record {
          mark = miss word new at w write (k.base + 4) (omega arith) ∙ words.mark;
          tail = miss word new at w write (k.base + 8) (omega arith) ∙ words.tail;
          done = miss word new at w write (k.base + 12) (omega arith) ∙ words.done;
          full = λ j from below. full j from below (cases_eq j n.landed.slots);
          empty = λ j from below. miss word new at w write (slot k.size k.base j)
              (slots_apart k.size k.base n.landed.slots j is.some_slot (omega (arith, from))
              (omega (arith, below, order.nulls_landed, order.nulls_slots)))
              ∙ words.empty j (omega (arith, from)) below;
        };
        mine = omega arith;
        theirs = refl;
      }
    where
      at : ℕ
      at = slot k.size k.base n.landed.slots

      w : ℕ
      w = slice_index k.list n.landed.slots

      full : (j : ℕ) → n.landed.nulls ≤ j → j < n.landed.slots + 1 → (j ≡ n.landed.slots) ⊎ (j ≢ n.landed.slots)
          → new (slot k.size k.base j) ≡ slice_index k.list j
      full j from below (inl same) = hit word new at w write (slot k.size k.base j) (ap (slot k.size k.base) (sym same)) ∙ ap (slice_index k.list) (sym same)
      full j from below (inr other) = miss word new at w write (slot k.size k.base j)
          (λ same. slots_apart k.size k.base j n.landed.slots is.some_slot (omega (arith, below, other))
          (omega (arith, from, some, order.room)) (sym same)) ∙ words.full j from (omega (arith, below, other))

  mark_lands : n.landed.slots ≡ length k.list → n.landed.mark < n.sender.marked → IsWrite word new (k.base + 4, 1)
      → Lands fastforward_blocks k n new (suc (gone n.landed)) (freed n.landed)
  mark_lands all some write =
      record {
        after = record n.landed { mark = n.landed.mark + 1 };
        order = (omega (arith, all, some));
        words = record {
          mark = hit word new (k.base + 4) 1 write (k.base + 4) refl ∙ one;
          tail = miss word new (k.base + 4) 1 write (k.base + 8) (omega arith) ∙ words.tail;
          done = miss word new (k.base + 4) 1 write (k.base + 12) (omega arith) ∙ words.done;
          full = λ j from below. miss word new (k.base + 4) 1 write (slot k.size k.base j) (omega arith) ∙ words.full j from below;
          empty = λ j from below. miss word new (k.base + 4) 1 write (slot k.size k.base j) (omega arith) ∙ words.empty j from below;
        };
        mine = omega arith;
        theirs = refl;
      }
    where
      one : 1 ≡ n.landed.mark + 1
      one = omega (arith, some, order.marked_one)

  -- whichever of its stores is the oldest pending one, it lands
  pub sender_lands : (x : ℕ × ℕ) → gone n.landed < sent n.sender → slice_get (sender_stores k) (gone n.landed) ≡ Some x
      → IsWrite word new x → Lands fastforward_blocks k n new (suc (gone n.landed)) (freed n.landed)
  sender_lands x more oldest write = at (cases_lt n.landed.slots (length k.list))
    where
      is_of : (y : ℕ × ℕ) → slice_get (sender_stores k) (gone n.landed) ≡ Some y → IsWrite word new y
      is_of y at = same_write word new x y (sender_stores k) (gone n.landed) oldest at write

      unmarked : n.landed.slots < length k.list → n.landed.mark ≡ 0
      unmarked some = grind (arith, order.mark_all)

      room : n.landed.slots < length k.list → n.landed.slots < n.sender.stored
      room some = grind (arith, more, order.marked_all, order.mark_all, order.slots_landed, order.marked_one)

      at : (n.landed.slots < length k.list) ⊎ (length k.list ≤ n.landed.slots) → Lands fastforward_blocks k n new (suc (gone n.landed)) (freed n.landed)
      at (inl some) = word_lands (room some) (is_of (slot k.size k.base n.landed.slots, slice_index k.list n.landed.slots)
          (store_word k n.landed.slots (gone n.landed) some (omega (arith, unmarked some))))
      at (inr all) =
          let full : n.landed.slots ≡ length k.list = omega (arith, all, order.slots_landed, order.stored_all) in
          let waits : n.landed.mark < n.sender.marked = omega (arith, more, full, order.stored_all) in
          mark_lands full waits (is_of (k.base + 4, 1) (store_mark k (gone n.landed) (omega (arith, full, waits, order.marked_one))))

-- a store of the receiver to the block
module _ (k : SenderBlock) (is : IsBlock k) (n : Counters) (order : CounterInvariant k n) (word new : ℕ → ℕ) (words : Words k n.landed word) where
  null_lands : n.landed.nulls ≡ n.landed.tails → n.landed.nulls < nulls n.receiver
      → IsWrite word new (slot k.size k.base n.landed.nulls, 0)
      → Lands fastforward_blocks k n new (gone n.landed) (suc (freed n.landed))
  null_lands even some write =
      record {
        after = record n.landed { nulls = n.landed.nulls + 1 };
        order = (omega (arith, even, some));
        words = record {
          mark = miss word new at 0 write (k.base + 4) (omega arith) ∙ words.mark;
          tail = miss word new at 0 write (k.base + 8) (omega arith) ∙ words.tail;
          done = miss word new at 0 write (k.base + 12) (omega arith) ∙ words.done;
          full = λ j from below. miss word new at 0 write (slot k.size k.base j)
              (slots_apart k.size k.base n.landed.nulls j is.some_slot (omega (arith, from))
              (omega (arith, below, order.slots_landed, order.room))) ∙ words.full j (omega (arith, from)) below;
          empty = λ j from below. empty j from below (cases_eq j (n.landed.nulls + k.size));
        };
        mine = refl;
        theirs = omega arith;
      }
    where
      at : ℕ
      at = slot k.size k.base n.landed.nulls

      empty : (j : ℕ) → n.landed.slots ≤ j → j < n.landed.nulls + 1 + k.size
          → (j ≡ n.landed.nulls + k.size) ⊎ (j ≢ n.landed.nulls + k.size) → new (slot k.size k.base j) ≡ 0
      empty j from below (inl round) = hit word new at 0 write (slot k.size k.base j)
          (sym (ap (slot k.size k.base) round ∙ slot-again k.size k.base n.landed.nulls))
      empty j from below (inr other) = miss word new at 0 write (slot k.size k.base j)
          (slots_apart k.size k.base n.landed.nulls j is.some_slot (omega (arith, from, some, order.nulls_slots))
          (omega (arith, below, other))) ∙ words.empty j from (omega (arith, below, other))

  tail_lands : n.landed.nulls ≡ n.landed.tails + 1 → n.landed.tails < n.receiver.tails
      → IsWrite word new (k.base + 8, offset k (n.landed.tails + 1))
      → Lands fastforward_blocks k n new (gone n.landed) (suc (freed n.landed))
  tail_lands odd some write =
      record {
        after = record n.landed { tails = n.landed.tails + 1 };
        order = (omega (arith, odd, some));
        words = record {
          mark = miss word new (k.base + 8) w write (k.base + 4) (omega arith) ∙ words.mark;
          tail = hit word new (k.base + 8) w write (k.base + 8) refl;
          done = miss word new (k.base + 8) w write (k.base + 12) (omega arith) ∙ words.done;
          full = λ j from below. miss word new (k.base + 8) w write (slot k.size k.base j) (omega arith) ∙ words.full j from below;
          empty = λ j from below. miss word new (k.base + 8) w write (slot k.size k.base j) (omega arith) ∙ words.empty j from below;
        };
        mine = refl;
        theirs = omega arith;
      }
    where
      w : ℕ
      w = offset k (n.landed.tails + 1)

  done_lands : n.landed.tails ≡ length k.list → n.landed.done < n.receiver.done → IsWrite word new (k.base + 12, 1)
      → Lands fastforward_blocks k n new (gone n.landed) (suc (freed n.landed))
  done_lands all some write =
      record {
        after = record n.landed { done = n.landed.done + 1 };
        order = (omega (arith, all, some));
        words = record {
          mark = miss word new (k.base + 12) 1 write (k.base + 4) (omega arith) ∙ words.mark;
          tail = miss word new (k.base + 12) 1 write (k.base + 8) (omega arith) ∙ words.tail;
          done = hit word new (k.base + 12) 1 write (k.base + 12) refl ∙ one;
          full = λ j from below. miss word new (k.base + 12) 1 write (slot k.size k.base j) (omega arith) ∙ words.full j from below;
          empty = λ j from below. miss word new (k.base + 12) 1 write (slot k.size k.base j) (omega arith) ∙ words.empty j from below;
        };
        mine = refl;
        theirs = omega arith;
      }
    where
      one : 1 ≡ n.landed.done + 1
      one = omega (arith, some, order.done_one)

  -- whichever of its stores to the block is the oldest pending one, it lands
  pub receiver_lands : (x : ℕ × ℕ) → freed n.landed < taken_so_far n.receiver → slice_get (receiver_stores k) (freed n.landed) ≡ Some x
      → IsWrite word new x → Lands fastforward_blocks k n new (gone n.landed) (suc (freed n.landed))
  receiver_lands x more oldest write = at (cases_eq n.landed.nulls n.landed.tails) (cases_lt n.landed.nulls (length k.list))
    where
      is_of : (y : ℕ × ℕ) → slice_get (receiver_stores k) (freed n.landed) ≡ Some y → IsWrite word new y
      is_of y at = same_write word new x y (receiver_stores k) (freed n.landed) oldest at write

      nulls_all : nulls n.receiver ≤ length k.list
      nulls_all = omega (arith, order.nulls_slots, order.slots_landed, order.stored_all)

      -- before the last tail has landed there is no done word in memory, nor before the last null is made
      not_done : n.landed.tails < length k.list → n.landed.done ≡ 0
      not_done some = grind (arith, order.all_landed)

      not_last : n.receiver.tails < length k.list → n.receiver.done ≡ 0
      not_last some = grind (arith, order.done_all)

      null_waits : n.landed.nulls ≡ n.landed.tails → n.landed.nulls < length k.list
          → (n.landed.nulls < nulls n.receiver) ⊎ (nulls n.receiver ≤ n.landed.nulls)
          → n.landed.nulls < nulls n.receiver
      null_waits even some (inl less) = less
      null_waits even some (inr none) = absurd (omega (arith, more, even, none, not_last (omega (arith, some, none, order.tails_nulls)), order.tails_nulls))

      tail_waits : n.landed.nulls ≡ n.landed.tails + 1
          → (n.landed.tails < n.receiver.tails) ⊎ (n.receiver.tails ≤ n.landed.tails)
          → n.landed.tails < n.receiver.tails
      tail_waits odd (inl less) = less
      tail_waits odd (inr none) = absurd (omega (arith, more, odd, none, not_last (omega (arith, odd, none, order.nulls_landed, nulls_all)), order.nulls_tails))

      at : (n.landed.nulls ≡ n.landed.tails) ⊎ (n.landed.nulls ≢ n.landed.tails)
          → (n.landed.nulls < length k.list) ⊎ (length k.list ≤ n.landed.nulls)
          → Lands fastforward_blocks k n new (gone n.landed) (suc (freed n.landed))
      at (inl even) (inl some) =
          null_lands even (null_waits even some (cases_lt n.landed.nulls (nulls n.receiver)))
          (is_of (slot k.size k.base n.landed.nulls, 0)
          (store_null k n.landed.nulls (freed n.landed) some (omega (arith, even, not_done (omega (arith, even, some))))))
      at (inl even) (inr all) =
          let tails : n.landed.tails ≡ length k.list = omega (arith, even, all, order.nulls_landed, nulls_all) in
          let waits : n.landed.done < n.receiver.done = omega (arith, more, even, tails, nulls_all, order.tails_nulls) in
          done_lands tails waits (is_of (k.base + 12, 1) (store_done k (freed n.landed) (omega (arith, even, tails, waits, order.done_one))))
      at (inr other) ln =
          let odd : n.landed.nulls ≡ n.landed.tails + 1 = omega (arith, other, order.tail_after, order.null_before) in
          let some : n.landed.tails < length k.list = omega (arith, odd, order.nulls_landed, nulls_all) in
          tail_lands odd (tail_waits odd (cases_lt n.landed.tails n.receiver.tails)) (is_of (k.base + 8, offset k (n.landed.tails + 1))
          (store_tail k n.landed.tails (freed n.landed) some (omega (arith, odd, not_done some))))
