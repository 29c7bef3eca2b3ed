-- The reasons of the receiver's rows at its five lines between.
use Rattle.std.proofs.Common.{ℕ, ◌+◌, ◌*◌, ◌<◌, ◌≤◌, ◌≡◌, ◌≢◌, ◌==◌, ◌⊎◌, inl, inr, Bool, true, false, not, ◌&&◌, [], ◌∷◌, length, Some, refl, sym, ◌∙◌, ap}
use Rattle.std.proofs.Common.{subst, arith}
use Rattle.std.specs.Prelude.{map}
use Rattle.std.specs.List.{slice_get}
use Rattle.std.proofs.lemmas.Bool.{cases_lt, cases_eq, and_parts}
use Rattle.std.proofs.lemmas.Bool.Decides.{nat_tests}
use Rattle.rv_decode.specs.declared.instruction.Instr.{Instr}
use Rattle.hart.proofs.Instructions.{IsAt}
use Rattle.poll_close.specs.{runs, SenderBlock, offset, slot, ReceiverRegisters, whole_of, receiving, Flag, unread_of}
use Rattle.step_machine.proofs.Lines.{loads, stores, sum_line, load_line, store_line, same_jumps, other_goes_on}
use Rattle.poll_close.proofs.Blocks.{IsBlock, offset_low, word_of, word_from, slot_of, slot_at}
use Rattle.poll_close.proofs.BlockLaws.{found_in, Changes, Right_at}
use Rattle.poll_close.proofs.Distance.{flags, far_off}
use Rattle.poll_close.proofs.ReceiverMoves as step
use Rattle.rv_decode.specs.Listings.{lines_of}
use Rattle.fastforward.specs.{ring_lines, listing, fastforward_blocks, Counters, nulls, CounterInvariant, Words, Loaded, Empty}
use Rattle.fastforward.proofs.Means.{receiver_decoded}
use Rattle.fastforward.proofs.ReceiverReads.{seen_tail, seen_word, seen_none}
use Rattle.fastforward.proofs.ReceiverActs.{stores_null}

module _ (k : SenderBlock) (i count : ℕ) (n : Counters) (word : ℕ → ℕ) (r : ReceiverRegisters) (v : ℕ) (is : IsBlock k)
    (order : CounterInvariant k n) (words : Words k n.landed word) where
  at : (j : ℕ) {instr : Instr} → slice_get (map Some (lines_of listing.receiver)) j ≡ Some (Some instr)
      → IsAt (receiving ring_lines (whole_of k count) (4 * j) r) instr
  at j found = step.at_of ring_lines receiver_decoded (whole_of k count) r j found

  abbrev Right_here : ℕ → Type 0
  Right_here here = Right_at fastforward_blocks k i count n word r v here

  -- its own tail
  pub keeps_at_14 : Right_here 0x14  -- lw x7,8(x8)
  keeps_at_14 h z =
      let line = load_line (at 5 refl) (omega (arith, is.even, h.0.visits.base)) refl (omega (arith, is.inside, is.some_slot, h.0.visits.base)) is.small in
      let read : v ≡ offset k n.receiver.tails =
      z.find (k.base + 8) (word_of k is 8 (omega arith) refl) (line.needs ∙ ap (λ b. loads (b + 8)) h.0.visits.base)
      ∙ seen_tail k n word order words h.0.quiet.level h.0.open_yet in
      step.reads fastforward_blocks k i count n order r v 0x14 0x18 (r.x8 + 8) (λ w. record r { x7 = w }) refl
      (word_from k is r.x8 8 h.0.visits.base (omega arith) refl) line
      (h.0, (h.1, read))
      (λ rs states idle. (let ended : Bool = (r.x30 == 0) && not (runs (states (r.x22 + 1))) in
      flags 15 16 18 19 ended ended (omega arith) (far_off rs count (r.x22 + 1)) (λ on. on)))

  pub keeps_at_18 : Right_here 0x18  -- add x28,x8,x7
  keeps_at_18 h z =
      step.still fastforward_blocks k i count n order r v 0x18 0x1C (record r { x28 = r.x8 + r.x7 }) refl
      (sum_line (at 6 refl)
      (omega (arith, is.inside, is.small, h.0.visits.base, h.1.1, offset_low k is n.receiver.tails)))
      (h.0, (h.1.0, h.1.1, (let same : r.x8 + r.x7 ≡ k.base + r.x7 = omega (arith, h.0.visits.base) in same)))
      (λ rs states idle. (let ended : Bool = (r.x30 == 0) && not (runs (states (r.x22 + 1))) in
      flags 14 15 17 18 ended ended (omega arith) (far_off rs count (r.x22 + 1)) (λ on. on)))

  -- the slot of the next word: it has landed, or it holds 0; the mark was read before, and so all had landed then
  pub keeps_at_1C : Right_here 0x1C  -- lw x11,16(x28)
  keeps_at_1C h z =
      let line = load_line (at 7 refl) (omega (arith, is.even, h.1.1, h.1.2)) refl
      (omega (arith, is.inside, h.1.1, h.1.2, offset_low k is n.receiver.tails)) is.small in
      let read = z.find (slot k.size k.base n.receiver.tails) (slot_of k is n.receiver.tails) (line.needs ∙ ap loads
      (let same : r.x28 + 16 ≡ slot k.size k.base n.receiver.tails = omega (arith, h.1.1, h.1.2) in same)) in
      step.acts fastforward_blocks k i count n order r v 0x1C 0x20 (loads (r.x28 + 16)) (λ w. record r { x11 = w })
      (record n.receiver { seen = n.landed.slots })
      (tt, slot_at k is (r.x28 + 16) n.receiver.tails (omega (arith, h.1.1, h.1.2))) line
      (record { order = omega arith; stores = refl })
      (inl (
        record {
          visits = h.0.visits;
          quiet = record { words = h.0.quiet.words; closed = h.0.quiet.closed; level = h.0.quiet.level };
          open_yet = h.0.open_yet;
        },
        (seen read (cases_lt n.receiver.tails n.landed.slots), h.1.1, h.1.2),
      ))
      (inl (refl, refl, refl)) refl
      (λ none rs states idle. (let ended : Bool = not (runs (states (r.x22 + 1))) in
      flags 13 14 16 17 ((r.x30 == 0) && (v == 0)) ((r.x30 == 0) && ended) (omega arith)
      (far_off rs count (r.x22 + 1)) (older read ended (idle.ready h.0.visits.index))))
    where
      last : n.landed.slots ≤ n.receiver.tails → Flag n.receiver r.x30 → (r.x30 ≡ 0) ⊎ (n.receiver.tails ≡ length k.list)
      last none (inl unmarked) = inl unmarked
      last none (inr some) =
          let all : n.landed.slots ≡ length k.list = order.mark_all (omega (arith, some.1, order.seen_mark)) in
          inr (omega (arith, all, none, order.tails_nulls, order.nulls_slots))

      seen : v ≡ found_in (unread_of fastforward_blocks k n) word (slot k.size k.base n.receiver.tails)
          → (n.receiver.tails < n.landed.slots) ⊎ (n.landed.slots ≤ n.receiver.tails)
          → Empty k (record n.receiver { seen = n.landed.slots }) v r.x30
          ⊎ Loaded k (record n.receiver { seen = n.landed.slots }) v
      seen read (inl more) = inr (more, read ∙ seen_word k n word order words is h.0.quiet.level h.0.open_yet more)
      seen read (inr none) = inl (read ∙ seen_none k n word order words is h.0.quiet.level h.0.open_yet none, last none h.1.0)

      -- where the sender runs, the word that is ready is found
      older : v ≡ found_in (unread_of fastforward_blocks k n) word (slot k.size k.base n.receiver.tails)
          → (ended : Bool) → (ended ≡ false → n.receiver.tails < n.landed.slots) → ((r.x30 == 0) && (v == 0)) ≡ true
          → ((r.x30 == 0) && ended) ≡ true
      older read true ready both = rw ((and_parts (r.x30 == 0) (v == 0) both).0) refl
      older read false ready both =
          let more : n.receiver.tails < n.landed.slots = ready refl in
          let test : (v == 0) ≡ true = (and_parts (r.x30 == 0) (v == 0) both).1 in
          let none : v ≡ 0 = grind (arith, nat_tests) in
          absurd (is.full n.receiver.tails (omega (arith, more, order.slots_landed, order.stored_all))
          (sym (read ∙ seen_word k n word order words is h.0.quiet.level h.0.open_yet more) ∙ none))

  -- 0 means that nothing is there, since no word is 0
  pub keeps_at_20 : Right_here 0x20  -- beq x11,x0,empty
  keeps_at_20 h z =
      elim (cases_eq r.x11 0) [
        | inl none ↦ step.still fastforward_blocks k i count n order r v 0x20 0x48 r refl (same_jumps (at 8 refl) none refl) (h.0, empty none h.1.0)
            (λ rs states idle. flags 11 13 14 16 (r.x30 == 0) ((r.x30 == 0) && (r.x11 == 0)) (omega arith)
            (far_off rs count (r.x22 + 1))
            (λ on. (let zero_is : (r.x11 == 0) ≡ true = grind (arith, nat_tests) in rw (on, zero_is) refl)))
        | inr some ↦ step.still fastforward_blocks k i count n order r v 0x20 0x24 r refl
            (other_goes_on (at 8 refl) some) (h.0, (loaded some h.1.0, h.1.1, h.1.2))
            (λ rs states idle. flags 0 13 15 16 false ((r.x30 == 0) && (r.x11 == 0)) (omega arith) (far_off rs count (r.x22 + 1)) (λ on. cc))
      ]
    where
      empty : r.x11 ≡ 0 → Empty k n.receiver r.x11 r.x30 ⊎ Loaded k n.receiver r.x11 → (r.x30 ≡ 0) ⊎ (n.receiver.tails ≡ length k.list)
      empty none (inl h) = h.1
      empty none (inr h) = absurd (is.full n.receiver.tails (omega (arith, h.0, order.seen_slots, order.slots_landed, order.stored_all)) (sym h.1 ∙ none))

      loaded : r.x11 ≢ 0 → Empty k n.receiver r.x11 r.x30 ⊎ Loaded k n.receiver r.x11 → Loaded k n.receiver r.x11
      loaded some (inl h) = absurd (some h.0)
      loaded some (inr h) = h

  -- it stores the null
  pub keeps_at_24 : Right_here 0x24  -- sw x0,16(x28)
  keeps_at_24 h z =
      let low = offset_low k is n.receiver.tails in
      let line = store_line (at 9 refl) (omega (arith, is.even, h.1.1, h.1.2)) refl (omega (arith, is.inside, h.1.1, h.1.2, low)) is.small in
      let place : slot k.size k.base n.receiver.tails ≡ r.x28 + 16 = omega (arith, h.1.1, h.1.2) in
      step.acts fastforward_blocks k i count n order r v 0x24 0x28 (stores (r.x28 + 16) 0) (λ w. r)
      (record n.receiver { own = nulls n.receiver + 1 })
      (tt, slot_at k is (r.x28 + 16) n.receiver.tails (sym place)) line
      (subst
      (λ (a : ℕ). Changes fastforward_blocks k n (record n.receiver { own = nulls n.receiver + 1 }) ((a, 0) ∷ []))
      place (stores_null k n order h.0.quiet.level h.1.0.0 h.0.open_yet))
      (inl (
        record {
          visits = h.0.visits;
          ahead = h.0.quiet.words;
          closed = h.0.quiet.closed;
          open_yet = h.0.open_yet;
          filled = ap (λ u. u + 1) h.0.quiet.level;
          word = h.1.0.1;
        },
        h.1.1,
      ))
      (inl (refl, refl, refl)) refl
      (λ none rs states idle. omega arith)
