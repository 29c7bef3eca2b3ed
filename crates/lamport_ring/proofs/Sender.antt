-- Why each row of the sender's outline is right: from its assertion, the act there leads to the next row's.
use Rattle.std.proofs.Common.{ℕ, suc, ◌+◌, ◌≡◌, ◌==◌, false, refl, sym, ◌∙◌, ap, arith}
use Rattle.poll_close.proofs.Ring.{lines_of, SenderBlock, SenderRegisters, IsBlock, base_plus, word_of, slot_at, Sender, Rows, rows}
use Rattle.poll_close.proofs.Outlines as outline
use Rattle.lamport_ring.specs.{listing, lamport_blocks, Counters, CounterInvariant, Words}
use Rattle.lamport_ring.proofs.Means.{sender_decoded}
use Rattle.lamport_ring.proofs.SenderSteps as step

abbrev pub lamport_sender : Sender lamport_blocks
lamport_sender = record { lines = lines_of listing.sender; decoded = sender_decoded }

module _ (k : SenderBlock) (n : Counters) (word : ℕ → ℕ) (v : ℕ) (r : SenderRegisters) (is : IsBlock k) (order : CounterInvariant k n)
    (words : Words k n.landed word) where
  line : Rows lamport_blocks lamport_sender k n word v r
  line = rows lamport_blocks lamport_sender k n word v r is order

  abbrev Right_at : ℕ → Type 0
  Right_at here = outline.Right_at lamport_blocks lamport_sender k n word v r here

  pub keeps_at_00 : Right_at 0x00  -- next: addi x17,x0,1
  keeps_at_00 h = line.computes 0 refl refl (h.0, h.1, refl)

  pub keeps_at_04 : Right_at 0x04  -- ecall
  keeps_at_04 h = line.asks (record n.sender { asked = suc n.sender.asked }) refl refl h.2
      (λ more. (omega arith, step.given k n is order h.0 h.1 more)) (λ all. step.given_none k n is order h.0 h.1 all)

  pub keeps_at_08 : Right_at 0x08  -- beq x11,x0,done
  keeps_at_08 h = line.branch_equal 2 refl refl (λ none on. (step.none_left k n is order h none, omega (arith, none)))
      (λ some off. (step.holds k n is order h some, omega (arith, some)))

  pub keeps_at_0C : Right_at 0x0C  -- addi x6,x5,4
  keeps_at_0C h = line.computes 3 refl refl (h, step.sum_of k n is order h.index)

  pub keeps_at_10 : Right_at 0x10  -- bne x6,x9,test
  keeps_at_10 h = line.branch_other 4 refl refl (λ same on. ((h.0, omega arith), omega arith))
      (λ other off. ((h.0, step.one_on k n is order h.0.index h.1 other), omega arith))

  pub keeps_at_14 : Right_at 0x14  -- addi x6,x0,0
  keeps_at_14 h = line.computes 5 refl refl (h.0, step.first_again k n is order h.0.index h.1)

  -- it reads the tail that landed last
  pub keeps_at_18 : Right_at 0x18  -- test: lw x7,8(x8)
  keeps_at_18 h = line.loads_word 6 (record n.sender { seen = n.landed.tails }) refl refl (word_of k is 8 (omega arith) refl) (omega arith)
      (λ read. (step.same_word k n is order n.landed.tails h.0, h.1, step.has_read k n is order (read ∙ step.tail_found k n is order word words)))
      (λ found free. let off : (v == r.x6) ≡ false = ap (λ w. w == r.x6) found ∙ free in rw off (omega arith))

  -- a full ring keeps it here; else the next slot is free
  pub keeps_at_1C : Right_at 0x1C  -- beq x7,x6,test
  keeps_at_1C h = line.branch_equal 7 refl refl (λ same on. ((h.0, h.1), rw on (omega arith)))
      (λ other off. ((h.0, h.1, step.room k n is order h.2 h.1 other), rw off (omega arith)))

  pub keeps_at_20 : Right_at 0x20  -- add x28,x8,x5
  keeps_at_20 h = line.computes 8 refl refl (h.0, h.1, h.2, base_plus k is n.sender.stored h.0.index)

  pub keeps_at_24 : Right_at 0x24  -- sw x10,16(x28)
  keeps_at_24 h =
      let made = step.stores_word k n is order h.0 h.2 h.3 in
      line.stores_word 9 (record n.sender { stored = n.sender.stored + 1 }) refl refl
      (slot_at k is (r.x28 + 16) n.sender.stored (sym (step.slot_is k n is order h.0 h.3))) made.order made.next (step.is_stored k n is order h.0 h.1)

  pub keeps_at_28 : Right_at 0x28  -- sw x6,0(x8)
  keeps_at_28 h =
      let made = step.stores_index k n is order h in
      line.stores_word 10 (record n.sender { headed = n.sender.headed + 1 }) refl refl (word_of k is 0 (omega arith) refl)
      made.order made.next (step.is_between k n is order h, h.next)

  pub keeps_at_2C : Right_at 0x2C  -- addi x5,x6,0
  keeps_at_2C h = line.computes 11 refl refl (h.0, step.same_sum k n is order h.1)

  pub keeps_at_30 : Right_at 0x30  -- jal x0,next
  keeps_at_30 h = line.computes 12 refl refl h

  pub keeps_at_34 : Right_at 0x34  -- done: addi x6,x0,1
  keeps_at_34 h = line.computes 13 refl refl (h.0, h.1, refl)

  pub keeps_at_38 : Right_at 0x38  -- sw x6,4(x8)
  keeps_at_38 h =
      let made = step.stores_mark k n is order h.0 h.1 h.2 in
      line.stores_word 14 (record n.sender { marked = 1 }) refl refl (word_of k is 4 (omega arith) refl)
      made.order made.next (step.is_marked k n is order h.0 h.1)

  pub keeps_at_3C : Right_at 0x3C  -- addi x17,x0,93
  keeps_at_3C h = line.computes 15 refl refl (h, refl)

  pub keeps_at_40 : Right_at 0x40  -- ecall
  keeps_at_40 h = line.exits 16 refl refl h.1 h.0
