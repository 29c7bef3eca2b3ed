-- The laws of one block, all together, and so the laws of the ring.
use Rattle.std.proofs.Common.{ℕ, ◌≡◌, refl, arith, lit≤}
use Rattle.std.proofs.Math.Nat.{zero-mod}
use Rattle.poll_close.proofs.Ring.{SenderBlock, IsBlock, Within, word_of, slot_of, BlockLaws, Begins, opens_with, ◌&◌, sends, AllLaws, all_laws, words_of}
use Rattle.fastforward.specs.{listing, fastforward, fastforward_blocks, fastforward_means, Counters, Landed, Words}
use Rattle.fastforward.proofs.Means.{receiver_decoded}
use Rattle.fastforward.proofs.Stores.{sender_stores_are, receiver_stores_are}
use Rattle.fastforward.proofs.Landings.{sender_lands, receiver_lands}
use Rattle.fastforward.proofs.Sender.{fastforward_sender, reasons}
use Rattle.fastforward.proofs.ReceiverReads.{seen_mark, seen_done}
use Rattle.fastforward.proofs.ReceiverActs.{stores_tail, stores_done, reported}
use Rattle.fastforward.proofs.Receiver as between

abbrev nothing : Counters
nothing = record {
  sender = record { asked = 0; stored = 0; marked = 0; seen = 0 };
  receiver = record { tails = 0; done = 0; took = 0; closings = 0; seen = 0; mark = 0; own = 0 };
  landed = record { slots = 0; mark = 0; nulls = 0; tails = 0; done = 0 };
}

begins : (k : SenderBlock) → IsBlock k → Begins fastforward_blocks nothing k (opens_with (words_of listing.sender) k)
begins k is = record {
  order = omega (arith, is.some_slot);
  words = record { mark = refl; tail = omega (arith, zero-mod k.size); done = refl; full = λ j from below. omega arith; empty = λ j from below. refl };
  stands = record {
    place = 0x00;
    written = record { x5 = 0; x6 = 0; x7 = 0; x10 = 0; x11 = 0; x17 = 0; x28 = 0 };
    is = refl;
    holds = (record { taken = refl; unmarked = refl }, omega (arith, zero-mod k.size));
  };
  unsent = refl;
  unread = refl;
  quiet = record { words = refl; closed = refl; level = refl };
  took = refl;
  closings = refl;
}

words_same : (k : SenderBlock) (n : Landed) (word new : ℕ → ℕ) → IsBlock k → ((a : ℕ) → Within k a → new a ≡ word a) → Words k n word → Words k n new
words_same k n word new is same w = grind (arith, word_of, slot_of)

pub laws : BlockLaws fastforward_blocks
laws = record {
  decodes = receiver_decoded;
  none = nothing;
  begins = begins;
  tails_all = λ k n order. omega (arith, order.tails_nulls, order.nulls_slots, order.slots_landed, order.stored_all);
  shut_done = λ k n order. order.shut_done;
  dones_one = λ k n order. order.done_one;
  marks_one = λ k n order. omega (arith, order.mark_landed, order.marked_one);
  filled_more = λ k n order filled. omega (arith, filled, order.nulls_slots, order.slots_landed, order.stored_all);
  gone_sent = λ k n order. omega (arith, order.slots_landed, order.mark_landed);
  freed_taken = λ k n order. omega (arith, order.nulls_landed, order.tails_landed, order.done_landed);
  sender_stores_are = sender_stores_are;
  receiver_stores_are = receiver_stores_are;
  words_same = words_same;
  sends = λ k n s word v is order words st running find. sends fastforward_blocks fastforward_sender reasons k n s word v is order words st running find;
  sender_lands = λ k n word new x is order words more oldest write. sender_lands k is n order word new words x more oldest write;
  receiver_lands = λ k n word new x is order words more oldest write. receiver_lands k is n order word new words x more oldest write;
  sees_done = λ k n word order words. seen_done k n word order words;
  sees_mark = λ k n word order words. seen_mark k n word order words;
  stores_tail = λ k n order filled on. stores_tail k n order filled on;
  stores_done = λ k n order level all on. stores_done k n order level all on;
  reports = λ k n words closed order level known. reported k n order words closed level known;
  moves_14 = λ k i count n word r v is order words. between.keeps_at_14 k i count n word r v is order words;
  moves = λ k i count n word r v is order words.
      between.keeps_at_18 k i count n word r v is order words & between.keeps_at_1C k i count n word r v is order words
      & between.keeps_at_20 k i count n word r v is order words & between.keeps_at_24 k i count n word r v is order words & tt;
}

pub fastforward_laws : AllLaws fastforward fastforward_means
fastforward_laws = all_laws fastforward_blocks laws 1 (lit≤ tt) (lit≤ tt, lit≤ tt)
