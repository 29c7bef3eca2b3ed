-- Why each row of the sender's outline is right: from its assertion, the act there leads to the next row's.
use Rattle.std.proofs.Common.{ℕ, suc, ◌+◌, ◌<◌, ◌≤◌, ◌≡◌, ◌≢◌, ◌==◌, ◌⊎◌, inl, inr, true, length, Some, refl, sym, ◌∙◌, ap, arith}
use Rattle.std.specs.Prelude.{slice_index}
use Rattle.std.specs.List.{slice_get}
use Rattle.std.proofs.lemmas.Bool.{cases_eq, not-false}
use Rattle.step_machine.proofs.{word-plus, offset_step, offset_wrap}
use Rattle.poll_close.proofs.Ring.{lines_of, SenderBlock, offset, slot, SenderRegisters, unsent_of, Reasons, in_memory, newest_found, IsBlock, base_plus}
use Rattle.poll_close.proofs.Ring.{offset_low, word_of, slot_at, found_in, Sender, Right, ◌&◌, Rows, rows}
use Rattle.poll_close.proofs.Outlines as outline
use Rattle.fastforward.specs.{listing, fastforward_blocks, sender_stores, Counters, sent, gone, CounterInvariant, Words, sender}
use Rattle.fastforward.proofs.Means.{sender_decoded}
use Rattle.fastforward.proofs.Stores.{slots_apart, slot-again, store_word, store_mark, word_at}

module _ (k : SenderBlock) (is : IsBlock k) (n : Counters) (order : CounterInvariant k n) (word : ℕ → ℕ) (words : Words k n.landed word) where
  -- a slot whose null is not in memory holds the word of a round before: in memory, or pending
  full_slot : n.sender.marked ≡ 0 → n.sender.stored < length k.list → n.sender.stored ≡ n.landed.nulls + k.size
      → found_in (unsent_of fastforward_blocks k n) word (slot k.size k.base n.sender.stored)
      ≡ slice_index k.list n.landed.nulls
  full_slot unmarked more round = at (cases_eq n.landed.slots n.landed.nulls)
    where
      place : ℕ
      place = slot k.size k.base n.sender.stored

      here : place ≡ slot k.size k.base n.landed.nulls
      here = ap (slot k.size k.base) round ∙ slot-again k.size k.base n.landed.nulls

      -- no mark is made, so all that is pending are words
      first : gone n.landed ≡ n.landed.slots
      first = omega (arith, order.mark_landed, unmarked)

      elsewhere : (t : ℕ) (x : ℕ × ℕ) → n.landed.nulls < t → t < sent n.sender → slice_get (sender_stores k) t ≡ Some x → x.0 ≢ place
      elsewhere t x above below got same =
          let before : t < n.sender.stored = omega (arith, below, unmarked) in
          slots_apart k.size k.base t n.sender.stored is.some_slot before (omega (arith, above, round))
          (sym (word_at k t x got (omega (arith, before, more))) ∙ same)

      at : (n.landed.slots ≡ n.landed.nulls) ⊎ (n.landed.slots ≢ n.landed.nulls)
          → found_in (unsent_of fastforward_blocks k n) word place ≡ slice_index k.list n.landed.nulls
      at (inl none) =
          let store : slice_get (sender_stores k) n.landed.nulls
          ≡ Some (place, slice_index k.list n.landed.nulls) =
          store_word k n.landed.nulls n.landed.nulls (omega (arith, more, round)) refl
          ∙ ap (λ a. Some (a, slice_index k.list n.landed.nulls)) (sym here) in
          newest_found (sender_stores k) (gone n.landed) (sent n.sender) word place
          (slice_index k.list n.landed.nulls) n.landed.nulls (omega (arith, none, first)) (omega (arith, round, is.some_slot))
          store elsewhere
      at (inr some) =
          in_memory (sender_stores k) (gone n.landed) (sent n.sender) word place
          (λ t x from below got. elsewhere t x (omega (arith, from, first, some, order.nulls_landed, order.nulls_slots)) below got)
          ∙ ap word here ∙ words.full n.landed.nulls (omega arith) (omega (arith, some, order.nulls_landed, order.nulls_slots))

  -- so where it reads 0 the slot is free, since no word is 0
  found_free : (v : ℕ) → n.sender.marked ≡ 0 → n.sender.stored < length k.list
      → v ≡ found_in (unsent_of fastforward_blocks k n) word (slot k.size k.base n.sender.stored) → v ≡ 0
      → n.sender.stored + 1 ≤ n.landed.nulls + k.size
  found_free v unmarked more read zero_is =
      elim (cases_eq n.sender.stored (n.landed.nulls + k.size)) [
        | inl round ↦ absurd (is.full n.landed.nulls (omega (arith, more, round)) (sym (full_slot unmarked more round) ∙ sym read ∙ zero_is))
        | inr free ↦ omega (arith, order.room)
      ]

abbrev pub fastforward_sender : Sender fastforward_blocks
fastforward_sender = record { lines = lines_of listing.sender; decoded = sender_decoded }

module _ (k : SenderBlock) (n : Counters) (word : ℕ → ℕ) (v : ℕ) (r : SenderRegisters) (is : IsBlock k)
    (order : CounterInvariant k n) (words : Words k n.landed word) where
  line : Rows fastforward_blocks fastforward_sender k n word v r
  line = rows fastforward_blocks fastforward_sender k n word v r is order

  abbrev Right_at : ℕ → Type 0
  Right_at here = outline.Right_at fastforward_blocks fastforward_sender k n word v r here

  keeps_at_00 : Right_at 0x00  -- next: addi x17,x0,1
  keeps_at_00 h = line.computes 0 refl refl (h.0, h.1, refl)

  keeps_at_04 : Right_at 0x04  -- ecall
  keeps_at_04 h = line.asks (record n.sender { asked = suc n.sender.asked }) refl refl h.2
      (λ more. (
        omega arith,
        record {
          unmarked = h.0.unmarked;
          index = h.1;
          answer = inl (refl, omega (arith, h.0.taken), omega (arith, h.0.taken, more), ap (slice_index k.list) h.0.taken);
        },
      ))
      (λ all. record { unmarked = h.0.unmarked; index = h.1; answer = inr (refl, h.0.taken, omega (arith, h.0.taken, all, order.stored_all)) })

  keeps_at_08 : Right_at 0x08  -- beq x11,x0,done
  keeps_at_08 h = line.branch_equal 2 refl refl
      (λ none on. elim h.answer [
        | inl some ↦ absurd (omega (arith, none, some.0))
        | inr all ↦ ((record { taken = all.1; unmarked = h.unmarked }, all.2), omega (arith, none))
      ])
      (λ other off. elim h.answer [
        | inl some ↦ (record { taken = some.1; unmarked = h.unmarked; within = some.2; word = some.3; index = h.index }, omega (arith, other))
        | inr all ↦ absurd (other all.0)
      ])

  keeps_at_0C : Right_at 0x0C  -- add x28,x8,x5
  keeps_at_0C h = line.computes 3 refl refl (h, base_plus k is n.sender.stored h.index)

  -- where it reads 0 its slot is free, and it reads 0 where it doesn't wait
  keeps_at_10 : Right_at 0x10  -- test: lw x7,16(x28)
  keeps_at_10 h =
      let place : r.x28 + 16 ≡ slot k.size k.base n.sender.stored = omega (arith, h.1, h.0.index) in
      line.loads_word 4 (record n.sender { seen = n.landed.nulls }) refl refl (slot_at k is (r.x28 + 16) n.sender.stored place) (omega arith)
      (λ read. (
        record { taken = h.0.taken; unmarked = h.0.unmarked; within = h.0.within; word = h.0.word; index = h.0.index },
        h.1,
        found_free k is n order word words v h.0.unmarked h.0.within
            (read ∙ ap (found_in (unsent_of fastforward_blocks k n) word) place),
      ))
      (λ found free. let zero_is : (v == 0) ≡ true = ap (λ w. w == 0) found ∙ not-false (word (r.x28 + 16) == 0) free in rw zero_is (omega arith))

  keeps_at_14 : Right_at 0x14  -- bne x7,x0,test
  keeps_at_14 h = line.branch_other 5 refl refl (λ none on. ((h.0, h.1, h.2 none), rw on (omega arith))) (λ some off. ((h.0, h.1), rw off (omega arith)))

  keeps_at_18 : Right_at 0x18  -- sw x10,16(x28)
  keeps_at_18 h =
      let place : slot k.size k.base n.sender.stored ≡ r.x28 + 16 = omega (arith, h.1, h.0.index) in
      line.stores_word 6 (record n.sender { stored = n.sender.stored + 1 }) refl refl (slot_at k is (r.x28 + 16) n.sender.stored (sym place))
      (omega (arith, h.0.unmarked, h.0.within, h.2))
      (omega arith, store_word k n.sender.stored (sent n.sender) h.0.within (omega (arith, h.0.unmarked)) ∙ rw (place, h.0.word) refl)
      (record { between = record { taken = h.0.taken; unmarked = h.0.unmarked }; last = n.sender.stored; next = refl }, h.0.index)

  keeps_at_1C : Right_at 0x1C  -- addi x5,x5,4
  keeps_at_1C h = line.computes 7 refl refl
      (h.0, word-plus r.x5 4 (omega (arith, is.inside, is.wide, h.1, offset_low k is h.0.last)) ∙ ap (λ o. o + 4) h.1)

  keeps_at_20 : Right_at 0x20  -- bne x5,x9,next
  keeps_at_20 h = line.branch_other 8 refl refl (λ same on. ((h.0, sym h.1 ∙ same), omega arith)) (λ other off. (
    (
      h.0.between,
      h.1 ∙ offset_step k.size h.0.last is.some_slot (λ full. other (h.1 ∙ full)) ∙ ap (offset k) (sym h.0.next),
    ),
    omega arith,
  ))

  keeps_at_24 : Right_at 0x24  -- addi x5,x0,0
  keeps_at_24 h = line.computes 9 refl refl (h.0.between, sym (offset_wrap k.size h.0.last is.some_slot h.1) ∙ ap (offset k) (sym h.0.next))

  keeps_at_28 : Right_at 0x28  -- jal x0,next
  keeps_at_28 h = line.computes 10 refl refl h

  keeps_at_2C : Right_at 0x2C  -- done: addi x6,x0,1
  keeps_at_2C h = line.computes 11 refl refl (h.0, h.1, refl)

  keeps_at_30 : Right_at 0x30  -- sw x6,4(x8)
  keeps_at_30 h = line.stores_word 12 (record n.sender { marked = 1 }) refl refl (word_of k is 4 (omega arith) refl) (omega (arith, h.1))
      (omega (arith, h.0.unmarked), store_mark k (sent n.sender) (omega (arith, h.0.unmarked, h.1)) ∙ rw h.2 refl)
      (record { taken = h.0.taken ∙ h.1; all = h.1; mark = refl })

  keeps_at_34 : Right_at 0x34  -- addi x17,x0,93
  keeps_at_34 h = line.computes 13 refl refl (h, refl)

  keeps_at_38 : Right_at 0x38  -- ecall
  keeps_at_38 h = line.exits 14 refl refl h.1 h.0

  pub reasons : Reasons (Right fastforward_blocks fastforward_sender k n word v r) sender.rows
  reasons = keeps_at_00 & keeps_at_04 & keeps_at_08 & keeps_at_0C & keeps_at_10 & keeps_at_14 & keeps_at_18 & keeps_at_1C & keeps_at_20
      & keeps_at_24 & keeps_at_28 & keeps_at_2C & keeps_at_30 & keeps_at_34 & keeps_at_38 & tt
