-- The reasons of the receiver's rows at its five lines between.
use Rattle.std.proofs.Common.{ℕ, ◌+◌, ◌*◌, ◌%◌, ◌<◌, ◌≡◌, ◌≢◌, ◌==◌, ◌⊎◌, inl, inr, Bool, true, false, not, ◌&&◌, length, Some, refl, sym, ◌∙◌, ap, arith}
use Rattle.std.specs.Prelude.{slice_index, map}
use Rattle.std.specs.List.{slice_get}
use Rattle.std.proofs.lemmas.Bool.{cases_eq, and_parts}
use Rattle.std.proofs.lemmas.Bool.Decides.{nat_tests}
use Rattle.rv_decode.specs.declared.instruction.Instr.{Instr}
use Rattle.hart.proofs.Instructions.{IsAt}
use Rattle.poll_close.specs.{taken, runs, SenderBlock, offset, slot, ReceiverRegisters, whole_of, receiving, Flag}
use Rattle.step_machine.proofs.{loads, sum_line, load_line, same_jumps, other_goes_on, same_offset}
use Rattle.poll_close.proofs.Blocks.{IsBlock, offset_low, base_word, word_of, word_from, slot_of, slot_at}
use Rattle.poll_close.proofs.BlockLaws.{Right_at}
use Rattle.poll_close.proofs.Distance.{flags, far_off}
use Rattle.poll_close.proofs.ReceiverMoves as step
use Rattle.rv_decode.specs.Listings.{lines_of}
use Rattle.lamport_ring.specs.{ring_lines, listing, Program, blocks_of, Counters, CounterInvariant, Words}
use Rattle.lamport_ring.proofs.Means.{receiver_decoded}
use Rattle.lamport_ring.proofs.ReceiverReads.{seen_head, seen_tail, seen_slot}

module _ (p : Program) (k : SenderBlock) (i count : ℕ) (n : Counters) (word : ℕ → ℕ) (r : ReceiverRegisters) (v : ℕ) (is : IsBlock k)
    (order : CounterInvariant k n) (words : Words k n.landed word) where
  at : (j : ℕ) {instr : Instr} → slice_get (map Some (lines_of listing.receiver)) j ≡ Some (Some instr)
      → IsAt (receiving ring_lines (whole_of k count) (4 * j) r) instr
  at j found = step.at_of ring_lines receiver_decoded (whole_of k count) r j found

  abbrev Right_here : ℕ → Type 0
  Right_here here = Right_at (blocks_of p) k i count n word r v here

  -- it reads the head that landed last
  pub keeps_at_14 : Right_here 0x14  -- lw x6,0(x8)
  keeps_at_14 h z =
      let line = load_line (at 5 refl) (omega (arith, is.even, h.0.visits.base)) refl (omega (arith, is.inside, is.some_slot, h.0.visits.base)) is.small in
      let read : v ≡ offset k n.landed.heads = z.find k.base (base_word k is)
      (line.needs ∙ ap loads (let same : r.x8 + 0 ≡ k.base = omega (arith, h.0.visits.base) in same))
      ∙ seen_head k n word order words in
      step.acts (blocks_of p) k i count n order r v 0x14 0x18 (loads (r.x8 + 0)) (λ w. record r { x6 = w })
      (record n.receiver { seen = n.landed.heads }) (tt, word_from k is r.x8 0 h.0.visits.base (omega arith) refl)
      line (record { order = omega arith; stores = refl })
      (inl (
        record {
          visits = h.0.visits;
          quiet = record { words = h.0.quiet.words; closed = h.0.quiet.closed; level = tt };
          open_yet = h.0.open_yet;
        },
        record { is = read; last = last h.1 },
      ))
      (inl (refl, refl, refl)) refl
      (λ none rs states idle. (let ended : Bool = not (runs (states (r.x22 + 1))) in let took = length (taken rs r.x22) in
      flags 15 16 18 19 ((r.x30 == 0) && (v == 4 * (took % k.size))) ((r.x30 == 0) && ended) (omega arith)
      (far_off rs count (r.x22 + 1))
      (older read took (idle.took h.0.visits.index h.0.quiet.words) ended
      (idle.ready h.0.visits.index))))
    where
      last : Flag n.receiver r.x30 → (r.x30 ≡ 0) ⊎ (n.landed.heads ≡ length k.list)
      last (inl none) = inl none
      last (inr some) = inr (order.mark_all (omega (arith, some.1, order.seen_mark)))

      -- where the sender runs, the head that is found is past the tail
      older : v ≡ offset k n.landed.heads → (took : ℕ) → took ≡ n.receiver.took → (ended : Bool)
          → (ended ≡ false → n.receiver.tails < n.landed.heads) → ((r.x30 == 0) && (v == 4 * (took % k.size))) ≡ true
          → ((r.x30 == 0) && ended) ≡ true
      older read took is_took true ready both = rw ((and_parts (r.x30 == 0) (v == 4 * (took % k.size)) both).0) refl
      older read took is_took false ready both =
          let test : (v == 4 * (took % k.size)) ≡ true = (and_parts (r.x30 == 0) (v == 4 * (took % k.size)) both).1 in
          let one : v ≡ 4 * (took % k.size) = grind (arith, nat_tests) in
          let tail : 4 * (took % k.size) ≡ offset k n.receiver.tails = ap (offset k) (is_took ∙ h.0.quiet.words) in
          let same : n.receiver.tails ≡ n.landed.heads = same_offset k.size n.receiver.tails n.landed.heads
          (omega (arith, is.some_slot)) (omega (arith, order.tails_seen, order.seen_heads))
          (omega (arith, order.heads_slots, order.slots_landed, order.room, order.tails_landed))
          (sym tail ∙ sym one ∙ read) in
          absurd (omega (arith, same, ready refl))

  -- its own tail
  pub keeps_at_18 : Right_here 0x18  -- lw x7,8(x8)
  keeps_at_18 h z =
      let line = load_line (at 6 refl) (omega (arith, is.even, h.0.visits.base)) refl (omega (arith, is.inside, is.some_slot, h.0.visits.base)) is.small in
      let read : v ≡ offset k n.receiver.tails = z.find (k.base + 8) (word_of k is 8 (omega arith) refl)
      (line.needs ∙ ap (λ b. loads (b + 8)) h.0.visits.base) ∙ seen_tail k n word order words h.0.open_yet in
      step.reads (blocks_of p) k i count n order r v 0x18 0x1C (r.x8 + 8) (λ w. record r { x7 = w }) refl
      (word_from k is r.x8 8 h.0.visits.base (omega arith) refl) line
      (h.0, (record { is = h.1.is; last = h.1.last }, read))
      (λ rs states idle. (let took = length (taken rs r.x22) in
      let tail : v ≡ 4 * (took % k.size) =
      read ∙ ap (offset k) (sym (idle.took h.0.visits.index h.0.quiet.words ∙ h.0.quiet.words)) in
      flags 14 15 17 18 ((r.x30 == 0) && (r.x6 == v)) ((r.x30 == 0) && (r.x6 == 4 * (took % k.size))) (omega arith)
      (far_off rs count (r.x22 + 1))
      (λ on. sym (ap (λ y. (r.x30 == 0) && (r.x6 == y)) tail) ∙ on)))

  -- equal offsets mean that nothing is there: head and tail are less than a round apart
  pub keeps_at_1C : Right_here 0x1C  -- beq x6,x7,empty
  keeps_at_1C h z =
      elim (cases_eq r.x6 r.x7) [
        | inl same ↦ step.still (blocks_of p) k i count n order r v 0x1C 0x48 r refl (same_jumps (at 7 refl) same refl) (h.0, empty same h.1.0.last)
            (λ rs states idle. flags 11 14 14 17 (r.x30 == 0) ((r.x30 == 0) && (r.x6 == r.x7)) (omega arith)
            (far_off rs count (r.x22 + 1))
            (λ on. (let equal : (r.x6 == r.x7) ≡ true = grind (arith, nat_tests) in rw (on, equal) refl)))
        | inr other ↦
            step.still (blocks_of p) k i count n order r v 0x1C 0x20 r refl (other_goes_on (at 7 refl) other)
            (h.0, (more other (cases_eq n.receiver.tails n.receiver.seen), h.1.1))
            (λ rs states idle. flags 0 14 16 17 false ((r.x30 == 0) && (r.x6 == r.x7)) (omega arith) (far_off rs count (r.x22 + 1)) (λ on. cc))
      ]
    where
      one : r.x6 ≡ r.x7 → n.receiver.tails ≡ n.receiver.seen
      one same = same_offset k.size n.receiver.tails n.receiver.seen (omega (arith, is.some_slot)) order.tails_seen
          (omega (arith, order.seen_heads, order.heads_slots, order.slots_landed, order.room, order.tails_landed))
          (sym h.1.1 ∙ sym same ∙ h.1.0.is)

      empty : r.x6 ≡ r.x7 → (r.x30 ≡ 0) ⊎ (n.receiver.seen ≡ length k.list) → (r.x30 ≡ 0) ⊎ (n.receiver.tails ≡ length k.list)
      empty same (inl none) = inl none
      empty same (inr last) = inr (one same ∙ last)

      more : r.x6 ≢ r.x7 → (n.receiver.tails ≡ n.receiver.seen) ⊎ (n.receiver.tails ≢ n.receiver.seen) → n.receiver.tails < n.receiver.seen
      more other (inl same) = absurd (other (h.1.0.is ∙ ap (offset k) (sym same) ∙ sym h.1.1))
      more other (inr less) = omega (arith, order.tails_seen)

  pub keeps_at_20 : Right_here 0x20  -- add x28,x8,x7
  keeps_at_20 h z =
      step.still (blocks_of p) k i count n order r v 0x20 0x24 (record r { x28 = r.x8 + r.x7 }) refl
      (sum_line (at 8 refl)
      (omega (arith, is.inside, is.small, h.0.visits.base, h.1.1, offset_low k is n.receiver.tails)))
      (h.0, (h.1.0, h.1.1, (let same : r.x8 + r.x7 ≡ k.base + r.x7 = omega (arith, h.0.visits.base) in same)))
      (λ rs states idle. omega arith)

  -- the slot has landed, and no later store to it is made
  pub keeps_at_24 : Right_here 0x24  -- lw x11,16(x28)
  keeps_at_24 h z =
      let line = load_line (at 9 refl) (omega (arith, is.even, h.1.1, h.1.2)) refl
      (omega (arith, is.inside, h.1.1, h.1.2, offset_low k is n.receiver.tails)) is.small in
      let read : v ≡ slice_index k.list n.receiver.tails =
      z.find (slot k.size k.base n.receiver.tails) (slot_of k is n.receiver.tails) (line.needs ∙ ap loads
      (let same : r.x28 + 16 ≡ slot k.size k.base n.receiver.tails = omega (arith, h.1.1, h.1.2) in same))
      ∙ seen_slot k n word order words (omega (arith, h.1.0, order.seen_heads, order.heads_slots)) in
      step.reads (blocks_of p) k i count n order r v 0x24 0x28 (r.x28 + 16) (λ w. record r { x11 = w }) refl
      (slot_at k is (r.x28 + 16) n.receiver.tails (omega (arith, h.1.1, h.1.2))) line
      (record { visits = h.0.visits; ahead = h.0.quiet.words; closed = h.0.quiet.closed; open_yet = h.0.open_yet; filled = h.1.0; word = read }, h.1.1)
      (λ rs states idle. omega arith)
