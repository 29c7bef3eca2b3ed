-- The receiver's stores and reports, and what stays of its assertions, as the laws of a block ask for
-- them.
use Rattle.std.proofs.Common.{ℕ, ◌+◌, ◌<◌, ◌≡◌, [], ◌∷◌, length, refl, arith, ◌≤◌}
use Rattle.poll_close.specs.Invariant.Blocks.{SenderBlock, offset, slot}
use Rattle.poll_close.proofs.BlockLaws.{Changes, Stepped}
use Rattle.fastforward.specs.{fastforward_blocks, Counters, nulls, taken_so_far, CounterInvariant, Level, Filled}
use Rattle.fastforward.proofs.Stores.{store_null, store_tail, store_done}

-- the receiver's own numbers grow
module _ (k : SenderBlock) (n : Counters) (order : CounterInvariant k n) where
  pub stores_null : Level n.receiver → n.receiver.tails < n.receiver.seen → n.receiver.done ≡ 0
      → Changes fastforward_blocks k n (record n.receiver { own = nulls n.receiver + 1 })
      ((slot k.size k.base n.receiver.tails, 0) ∷ [])
  stores_null level more on = record {
    order = omega (arith, level, more);
    stores = (let within : n.receiver.tails < length k.list = omega (arith, more, order.seen_slots, order.slots_landed, order.stored_all) in
        (omega arith, store_null k n.receiver.tails (taken_so_far n.receiver) within (omega (arith, level, on))));
  }

  pub stores_tail : Filled n.receiver → n.receiver.done ≡ 0
      → Stepped fastforward_blocks k n (record n.receiver { tails = n.receiver.tails + 1; mark = n.landed.mark })
      ((k.base + 8, offset k (n.receiver.tails + 1)) ∷ [])
  stores_tail filled on = record {
    changes = record {
      order = omega (arith, filled, on);
      stores = (let within : n.receiver.tails < length k.list = omega (arith, filled, order.nulls_slots, order.slots_landed, order.stored_all) in
          (omega arith, store_tail k n.receiver.tails (taken_so_far n.receiver) within (omega (arith, filled, on))));
    };
    level = filled;
  }

  pub stores_done : Level n.receiver → n.receiver.tails ≡ length k.list → n.receiver.done ≡ 0
      → Stepped fastforward_blocks k n (record n.receiver { done = 1; mark = n.landed.mark }) ((k.base + 12, 1) ∷ [])
  stores_done level all on = record {
    changes = record {
      order = omega (arith, all);
      stores = (omega (arith, on), store_done k (taken_so_far n.receiver) (omega (arith, level, all, on)));
    };
    level = level;
  }

  pub reported : (words closed : ℕ) → Level n.receiver → closed ≤ n.receiver.done
      → Stepped fastforward_blocks k n (record n.receiver { took = words; closings = closed; mark = n.landed.mark }) []
  reported words closed level known = record { changes = record { order = omega arith; stores = refl }; level = level }
