-- The words of a block, by its numbers, and what each landing makes of them.
use Rattle.std.proofs.Common.{ℕ, suc, ◌+◌, ◌*◌, ◌%◌, ◌<◌, ◌≤◌, ◌≡◌, ◌≢◌, ◌⊎◌, inl, inr, length, Some, refl, sym, ◌∙◌, ap, arith}
use Rattle.std.specs.Prelude.{slice_index}
use Rattle.std.specs.List.{slice_get}
use Rattle.std.proofs.lemmas.Bool.{cases_lt, cases_eq}
use Rattle.step_machine.proofs.Modulo.{mod_apart}
use Rattle.poll_close.proofs.Blocks.{IsWrite, hit, miss, same_write, IsBlock}
use Rattle.lamport_ring.specs.Invariant.{sender_stores, receiver_stores, Counters, sent, gone, freed, taken_so_far, CounterInvariant, Words, Program, blocks_of}
use Rattle.lamport_ring.proofs.Stores.{store_slot, store_head, store_mark, store_tail, store_done}
use Rattle.poll_close.specs.Invariant.Blocks.{SenderBlock, offset, slot}
use Rattle.poll_close.proofs.BlockLaws.{Lands}

module _ (p : Program) (k : SenderBlock) (is : IsBlock k) (n : Counters) (order : CounterInvariant k n) (word new : ℕ → ℕ)
    (words : Words k n.landed word) where
  slot_lands : n.landed.slots ≡ n.landed.heads → n.landed.heads < length k.list → gone n.landed < sent n.sender
      → IsWrite word new (slot k.size k.base n.landed.slots, slice_index k.list n.landed.slots)
      → Lands (blocks_of p) k n new (suc (gone n.landed)) (freed n.landed)
  slot_lands even more some write =
      record {
        after = record n.landed { slots = n.landed.slots + 1 };
        order = (omega (arith, even, room));
        words = record {
          head = miss word new at w write k.base (omega arith) ∙ words.head;
          mark = miss word new at w write (k.base + 4) (omega arith) ∙ words.mark;
          tail = miss word new at w write (k.base + 8) (omega arith) ∙ words.tail;
          done = miss word new at w write (k.base + 12) (omega arith) ∙ words.done;
          slots = slots;
        };
        mine = omega arith;
        theirs = refl;
      }
    where
      at : ℕ
      at = slot k.size k.base n.landed.slots

      w : ℕ
      w = slice_index k.list n.landed.slots

      room : n.landed.slots < n.sender.stored
      room = grind (arith, order.marked_all, order.slots_landed, order.heads_landed, order.headed_stored, order.mark_landed, order.marked_one)

      slots : (j : ℕ) → n.landed.tails ≤ j → j < n.landed.slots + 1 → new (slot k.size k.base j) ≡ slice_index k.list j
      slots j from below =
          elim (cases_eq j n.landed.slots) [
            | inl same ↦ hit word new at w write (slot k.size k.base j) (ap (slot k.size k.base) (sym same)) ∙ ap (slice_index k.list) (sym same)
            | inr other ↦
                let apart : j % k.size ≢ n.landed.slots % k.size = mod_apart k.size j n.landed.slots
                (omega (arith, is.some_slot)) (omega arith) (omega (arith, room, order.room)) in
                miss word new at w write (slot k.size k.base j) (λ same. apart (omega arith)) ∙ words.slots j from (omega arith)
          ]

  head_lands : n.landed.slots ≡ n.landed.heads + 1 → gone n.landed < sent n.sender
      → IsWrite word new (k.base, offset k (n.landed.heads + 1))
      → Lands (blocks_of p) k n new (suc (gone n.landed)) (freed n.landed)
  head_lands odd more write =
      record {
        after = record n.landed { heads = n.landed.heads + 1 };
        order = (omega (arith, odd, room));
        words = record {
          head = hit word new k.base w write k.base refl;
          mark = miss word new k.base w write (k.base + 4) (omega arith) ∙ words.mark;
          tail = miss word new k.base w write (k.base + 8) (omega arith) ∙ words.tail;
          done = miss word new k.base w write (k.base + 12) (omega arith) ∙ words.done;
          slots = λ j from below. miss word new k.base w write (slot k.size k.base j) (omega arith) ∙ words.slots j from below;
        };
        mine = omega arith;
        theirs = refl;
      }
    where
      w : ℕ
      w = offset k (n.landed.heads + 1)

      room : n.landed.heads < n.sender.headed
      room = grind (
        arith,
        order.marked_all,
        order.slots_landed,
        order.heads_landed,
        order.headed_stored,
        order.stored_headed,
        order.stored_all,
        order.mark_landed,
        order.marked_one,
      )

  mark_lands : n.landed.heads ≡ length k.list → gone n.landed < sent n.sender → IsWrite word new (k.base + 4, 1)
      → Lands (blocks_of p) k n new (suc (gone n.landed)) (freed n.landed)
  mark_lands all more write =
      record {
        after = record n.landed { mark = n.landed.mark + 1 };
        order = (omega (arith, all, room));
        words = record {
          head = miss word new (k.base + 4) 1 write k.base (omega arith) ∙ words.head;
          mark = hit word new (k.base + 4) 1 write (k.base + 4) refl ∙ one;
          tail = miss word new (k.base + 4) 1 write (k.base + 8) (omega arith) ∙ words.tail;
          done = miss word new (k.base + 4) 1 write (k.base + 12) (omega arith) ∙ words.done;
          slots = λ j from below. miss word new (k.base + 4) 1 write (slot k.size k.base j) (omega arith) ∙ words.slots j from below;
        };
        mine = omega arith;
        theirs = refl;
      }
    where
      room : n.landed.mark < n.sender.marked
      room =
          grind (arith, order.heads_slots, order.slots_landed, order.heads_landed, order.headed_stored, order.stored_all, order.mark_landed, order.marked_one)

      one : 1 ≡ n.landed.mark + 1
      one = omega (arith, room, order.marked_one)

  tail_lands : n.landed.tails < n.receiver.tails → IsWrite word new (k.base + 8, offset k (n.landed.tails + 1))
      → Lands (blocks_of p) k n new (gone n.landed) (suc (freed n.landed))
  tail_lands more write =
      record {
        after = record n.landed { tails = n.landed.tails + 1 };
        order = (omega (arith, more));
        words = record {
          head = miss word new (k.base + 8) w write k.base (omega arith) ∙ words.head;
          mark = miss word new (k.base + 8) w write (k.base + 4) (omega arith) ∙ words.mark;
          tail = hit word new (k.base + 8) w write (k.base + 8) refl;
          done = miss word new (k.base + 8) w write (k.base + 12) (omega arith) ∙ words.done;
          slots = λ j from below. miss word new (k.base + 8) w write (slot k.size k.base j) (omega arith) ∙ words.slots j (omega (arith, from)) below;
        };
        mine = refl;
        theirs = omega arith;
      }
    where
      w : ℕ
      w = offset k (n.landed.tails + 1)

  done_lands : n.landed.tails ≡ length k.list → n.landed.done < n.receiver.done → IsWrite word new (k.base + 12, 1)
      → Lands (blocks_of p) k n new (gone n.landed) (suc (freed n.landed))
  done_lands all more write =
      record {
        after = record n.landed { done = n.landed.done + 1 };
        order = (omega (arith, all, more));
        words = record {
          head = miss word new (k.base + 12) 1 write k.base (omega arith) ∙ words.head;
          mark = miss word new (k.base + 12) 1 write (k.base + 4) (omega arith) ∙ words.mark;
          tail = miss word new (k.base + 12) 1 write (k.base + 8) (omega arith) ∙ words.tail;
          done = hit word new (k.base + 12) 1 write (k.base + 12) refl ∙ one;
          slots = λ j from below. miss word new (k.base + 12) 1 write (slot k.size k.base j) (omega arith) ∙ words.slots j from below;
        };
        mine = refl;
        theirs = omega arith;
      }
    where
      one : 1 ≡ n.landed.done + 1
      one = omega (arith, more, order.done_one)

  -- whichever of the sender's stores is the oldest pending one, it lands
  pub sender_lands : (x : ℕ × ℕ) → gone n.landed < sent n.sender → slice_get (sender_stores k) (gone n.landed) ≡ Some x
      → IsWrite word new x → Lands (blocks_of p) k n new (suc (gone n.landed)) (freed n.landed)
  sender_lands x more oldest write = at (cases_lt n.landed.heads (length k.list)) (cases_eq n.landed.slots n.landed.heads)
    where
      is_of : (y : ℕ × ℕ) → slice_get (sender_stores k) (gone n.landed) ≡ Some y → IsWrite word new y
      is_of y at = same_write word new x y (sender_stores k) (gone n.landed) oldest at write

      unmarked : n.landed.heads < length k.list → n.landed.mark ≡ 0
      unmarked some = grind (arith, order.mark_all)

      at : (n.landed.heads < length k.list) ⊎ (length k.list ≤ n.landed.heads)
          → (n.landed.slots ≡ n.landed.heads) ⊎ (n.landed.slots ≢ n.landed.heads)
          → Lands (blocks_of p) k n new (suc (gone n.landed)) (freed n.landed)
      at (inl some) (inl even) =
          slot_lands even some more (is_of (slot k.size k.base n.landed.slots, slice_index k.list n.landed.slots)
          (store_slot k n.landed.slots (gone n.landed) (omega arith) (omega (arith, unmarked some))))
      at (inl some) (inr odd) =
          head_lands (omega (arith, order.heads_slots, order.slots_heads)) more (is_of (k.base, offset k (n.landed.heads + 1))
          (store_head k n.landed.heads (gone n.landed) some (omega (arith, unmarked some, order.heads_slots, order.slots_heads))))
      at (inr all) ls =
          mark_lands (omega (arith, order.heads_slots, order.slots_landed, order.stored_all)) more
          (is_of (k.base + 4, 1) (store_mark k (gone n.landed) (mark_next all)))
        where
          mark_next : length k.list ≤ n.landed.heads → gone n.landed ≡ 2 * length k.list
          mark_next full = grind (
            arith,
            more,
            order.heads_slots,
            order.slots_landed,
            order.stored_all,
            order.heads_landed,
            order.headed_stored,
            order.mark_landed,
            order.marked_one,
          )

  pub receiver_lands : (x : ℕ × ℕ) → freed n.landed < taken_so_far n.receiver → slice_get (receiver_stores k) (freed n.landed) ≡ Some x
      → IsWrite word new x → Lands (blocks_of p) k n new (gone n.landed) (suc (freed n.landed))
  receiver_lands x more oldest write = at (cases_lt n.landed.tails n.receiver.tails)
    where
      is_of : (y : ℕ × ℕ) → slice_get (receiver_stores k) (freed n.landed) ≡ Some y → IsWrite word new y
      is_of y at = same_write word new x y (receiver_stores k) (freed n.landed) oldest at write

      within : n.receiver.tails ≤ length k.list
      within = omega (arith, order.tails_seen, order.seen_heads, order.heads_slots, order.slots_landed, order.stored_all)

      not_done : n.landed.tails < n.receiver.tails → n.landed.done ≡ 0
      not_done some = grind (arith, order.all_landed, within)

      at : (n.landed.tails < n.receiver.tails) ⊎ (n.receiver.tails ≤ n.landed.tails) → Lands (blocks_of p) k n new (gone n.landed) (suc (freed n.landed))
      at (inl some) = tail_lands some (is_of (k.base + 8, offset k (n.landed.tails + 1))
          (store_tail k n.landed.tails (freed n.landed) (omega (arith, within)) (omega (arith, not_done some))))
      at (inr none) =
          let same : n.landed.tails ≡ n.receiver.tails = omega (arith, order.tails_landed) in
          let some : 0 < n.receiver.done = omega (arith, more) in
          let all : n.receiver.tails ≡ length k.list = order.done_all some in
          done_lands (omega arith) (omega (arith, more)) (is_of (k.base + 12, 1) (store_done k (freed n.landed) (omega (arith, more, order.done_one))))
