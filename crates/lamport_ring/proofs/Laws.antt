-- The laws of one block, whatever the sender's program, by what that owes.
use Rattle.std.proofs.Common.{ℕ, ◌+◌, ◌<◌, ◌≤◌, ◌≡◌, [], ◌∷◌, length, refl, arith}
use Rattle.std.proofs.Math.Nat.{zero-mod}
use Rattle.std.specs.Prelude.{slice_index}
use Rattle.hart.specs.State.{HartState}
use Rattle.poll_close.proofs.Ring.{SenderBlock, offset, SenderRegisters, Standing, Reasons, IsBlock, Within, base_word, word_of, slot_of, BlockLaws, Begins}
use Rattle.poll_close.proofs.Ring.{Stepped, opens_with, Sender, Right, ◌&◌, sends}
use Rattle.lamport_ring.specs.Invariant.{Program, outline_of, blocks_of, Sent, Counters, Landed, taken_so_far, CounterInvariant, Words}
use Rattle.lamport_ring.proofs.Means.{receiver_decoded}
use Rattle.lamport_ring.proofs.Stores.{store_tail, store_done, sender_stores_are, receiver_stores_are}
use Rattle.lamport_ring.proofs.Landings.{sender_lands, receiver_lands}
use Rattle.lamport_ring.proofs.ReceiverReads.{seen_mark, seen_done}
use Rattle.lamport_ring.proofs.Receiver as between

abbrev pub nothing : Counters
nothing = record {
  sender = record { asked = 0; stored = 0; headed = 0; marked = 0; seen = 0 };
  receiver = record { tails = 0; done = 0; took = 0; closings = 0; seen = 0; mark = 0; own = tt };
  landed = record { slots = 0; heads = 0; mark = 0; tails = 0; done = 0 };
}

-- at the line that reads the tail, x6 is the offset after the next word's
pub record Reads (k : SenderBlock) (n : Sent) (s : HartState) : Type 0 where
  pub heads : n.headed ≡ n.stored
  pub unmarked : n.marked ≡ 0
  pub next : slice_index s.registers 6 ≡ offset k (n.stored + 1)

-- what a sender's program owes: its listing is that of its words, it stands at its first line as it opens, each row has
-- its reason, and at the line that reads the tail it holds a word
pub record SenderLaws (p : Program) : Type 0 where
  pub listed : Sender (blocks_of p)
  pub stands : (k : SenderBlock) → IsBlock k → Standing (outline_of p) k nothing.sender (opens_with p.code k)
  pub reasons : (k : SenderBlock) (n : Counters) (word : ℕ → ℕ) (v : ℕ) (r : SenderRegisters) → IsBlock k → CounterInvariant k n
      → Words k n.landed word → Reasons (Right (blocks_of p) listed k n word v r) p.rows
  pub reads : (k : SenderBlock) (n : Sent) (s : HartState) → Standing (outline_of p) k n s → s.pc ≡ p.reads → Reads k n s

begins : (p : Program) (laws : SenderLaws p) (k : SenderBlock) → IsBlock k → Begins (blocks_of p) nothing k (opens_with p.code k)
begins p laws k is = record {
  order = omega (arith, is.some_slot);
  words = record {
    head = omega (arith, zero-mod k.size);
    mark = refl;
    tail = omega (arith, zero-mod k.size);
    done = refl;
    slots = λ j from below. omega arith;
  };
  stands = laws.stands k is;
  unsent = refl;
  unread = refl;
  quiet = record { words = refl; closed = refl; level = tt };
  took = refl;
  closings = refl;
}

words_same : (k : SenderBlock) (n : Landed) (word new : ℕ → ℕ) → IsBlock k → ((a : ℕ) → Within k a → new a ≡ word a) → Words k n word → Words k n new
words_same k n word new is same w = grind (arith, base_word, word_of, slot_of)

-- the receiver's own numbers grow
module _ (p : Program) (k : SenderBlock) (n : Counters) (order : CounterInvariant k n) where
  stores_tail : n.receiver.tails < n.receiver.seen → n.receiver.done ≡ 0
      → Stepped (blocks_of p) k n (record n.receiver { tails = n.receiver.tails + 1; mark = n.landed.mark })
      ((k.base + 8, offset k (n.receiver.tails + 1)) ∷ [])
  stores_tail more on = record {
    changes = record {
      order = omega (arith, more, on);
      stores = (let within : n.receiver.tails < length k.list =
          omega (arith, more, order.seen_heads, order.heads_slots, order.slots_landed, order.stored_all) in
          (omega arith, store_tail k n.receiver.tails (taken_so_far n.receiver) within (omega (arith, on))));
    };
    level = tt;
  }

  stores_done : n.receiver.tails ≡ length k.list → n.receiver.done ≡ 0
      → Stepped (blocks_of p) k n (record n.receiver { done = 1; mark = n.landed.mark }) ((k.base + 12, 1) ∷ [])
  stores_done all on = record {
    changes = record {
      order = omega (arith, all);
      stores = (omega (arith, on), store_done k (taken_so_far n.receiver) (omega (arith, all, on)));
    };
    level = tt;
  }

  reported : (words closed : ℕ) → closed ≤ n.receiver.done
      → Stepped (blocks_of p) k n (record n.receiver { took = words; closings = closed; mark = n.landed.mark }) []
  reported words closed known = record { changes = record { order = omega arith; stores = refl }; level = tt }

pub block_laws : (p : Program) → SenderLaws p → BlockLaws (blocks_of p)
block_laws p laws = record {
  decodes = receiver_decoded;
  none = nothing;
  begins = begins p laws;
  tails_all = λ k n order. omega (arith, order.tails_seen, order.seen_heads, order.heads_slots, order.slots_landed, order.stored_all);
  shut_done = λ k n order. order.shut_done;
  dones_one = λ k n order. order.done_one;
  marks_one = λ k n order. omega (arith, order.mark_landed, order.marked_one);
  filled_more = λ k n order more. omega (arith, more, order.heads_slots, order.slots_landed, order.stored_all);
  gone_sent = λ k n order. omega (arith, order.slots_landed, order.heads_landed, order.mark_landed);
  freed_taken = λ k n order. omega (arith, order.tails_landed, order.done_landed);
  sender_stores_are = sender_stores_are;
  receiver_stores_are = receiver_stores_are;
  words_same = words_same;
  sends = λ k n s word v is order words st running find. sends (blocks_of p) laws.listed laws.reasons k n s word v is order words st running find;
  sender_lands = λ k n word new x is order words more oldest write. sender_lands p k is n order word new words x more oldest write;
  receiver_lands = λ k n word new x is order words more oldest write. receiver_lands p k is n order word new words x more oldest write;
  sees_done = λ k n word order words. seen_done k n word order words;
  sees_mark = λ k n word order words. seen_mark k n word order words;
  stores_tail = λ k n order more on. stores_tail p k n order more on;
  stores_done = λ k n order level all on. stores_done p k n order all on;
  reports = λ k n words closed order level known. reported p k n order words closed known;
  moves_14 = λ k i count n word r v is order words. between.keeps_at_14 p k i count n word r v is order words;
  moves = λ k i count n word r v is order words.
      between.keeps_at_18 p k i count n word r v is order words & between.keeps_at_1C p k i count n word r v is order words
      & between.keeps_at_20 p k i count n word r v is order words & between.keeps_at_24 p k i count n word r v is order words & tt;
}
