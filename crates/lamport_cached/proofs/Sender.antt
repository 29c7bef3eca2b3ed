-- Why each row of the sender's outline is right: from its assertion, the act there leads to the next row's.
use Rattle.std.proofs.Common.{ℕ, suc, ◌+◌, ◌≡◌, ◌==◌, false, refl, sym, ◌∙◌, ap, arith}
use Rattle.poll_close.proofs.Ring.{lines_of, SenderBlock, SenderRegisters, IsBlock, base_plus, word_of, slot_at, Sender, Rows, rows}
use Rattle.poll_close.proofs.Outlines as outline
use Rattle.lamport_ring.specs.Invariant.{Counters, CounterInvariant, Words}
use Rattle.lamport_ring.proofs.SenderSteps as step
use Rattle.lamport_cached.specs.Listing.{listing}
use Rattle.lamport_cached.specs.LamportCached.{lamport_cached_blocks}
use Rattle.lamport_cached.proofs.Means.{sender_decoded}

abbrev pub sender : Sender lamport_cached_blocks
sender = record { lines = lines_of listing.sender; decoded = sender_decoded }

module _ (k : SenderBlock) (n : Counters) (word : ℕ → ℕ) (v : ℕ) (r : SenderRegisters) (is : IsBlock k) (order : CounterInvariant k n)
    (words : Words k n.landed word) where
  line : Rows lamport_cached_blocks sender k n word v r
  line = rows lamport_cached_blocks sender k n word v r is order

  abbrev Right_at : ℕ → Type 0
  Right_at here = outline.Right_at lamport_cached_blocks sender k n word v r here

  pub keeps_at_00 : Right_at 0x00  -- next: addi x17,x0,1
  keeps_at_00 h = line.computes 0 refl refl (h.0, h.1, h.2, refl)

  pub keeps_at_04 : Right_at 0x04  -- ecall
  keeps_at_04 h = line.asks (record n.sender { asked = suc n.sender.asked }) refl refl h.3
      (λ more. (omega arith, (step.given k n is order h.0 h.2 more, step.fits k n is order (record n.sender { asked = suc n.sender.asked }) h.1 refl h.1.near)))
      (λ all. (step.given_none k n is order h.0 h.2 all, h.1))

  pub keeps_at_08 : Right_at 0x08  -- beq x11,x0,done
  keeps_at_08 h = line.branch_equal 2 refl refl (λ none on. (step.none_left k n is order h.0 none, omega (arith, none)))
      (λ some off. (record { holds = step.holds k n is order h.0 some; read = h.1 }, omega (arith, some)))

  pub keeps_at_0C : Right_at 0x0C  -- addi x6,x5,4
  keeps_at_0C h = line.computes 3 refl refl (record { holds = h.holds; read = h.read }, step.sum_of k n is order h.holds.index)

  pub keeps_at_10 : Right_at 0x10  -- bne x6,x9,test
  keeps_at_10 h = line.branch_other 4 refl refl (λ same on. ((h.0, omega arith), omega arith))
      (λ other off. (record { ready = h.0; next = step.one_on k n is order h.0.holds.index h.1 other }, omega arith))

  pub keeps_at_14 : Right_at 0x14  -- addi x6,x0,0
  keeps_at_14 h = line.computes 5 refl refl (record {
    ready = record { holds = h.0.holds; read = h.0.read };
    next = step.first_again k n is order h.0.holds.index h.1;
  })

  -- the next slot is free by the tail that it has seen, or it reads the tail anew
  pub keeps_at_18 : Right_at 0x18  -- test: bne x7,x6,store
  keeps_at_18 h = line.branch_other 6 refl refl (λ same on. (h, omega arith))
      (λ other off. ((h, step.room k n is order h.ready.read h.next other), omega arith))

  -- it reads the tail that landed last
  pub keeps_at_1C : Right_at 0x1C  -- again: lw x7,8(x8)
  keeps_at_1C h = line.loads_word 7 (record n.sender { seen = n.landed.tails }) refl refl (word_of k is 8 (omega arith) refl) (omega arith)
      (λ read. record {
        ready = record {
          holds = step.same_word k n is order n.landed.tails h.ready.holds;
          read = step.has_read k n is order (read ∙ step.tail_found k n is order word words);
        };
        next = h.next;
      })
      (λ found free. let off : (v == r.x6) ≡ false = ap (λ w. w == r.x6) found ∙ free in rw off (omega arith))

  -- a full ring keeps it here; else the next slot is free
  pub keeps_at_20 : Right_at 0x20  -- beq x7,x6,again
  keeps_at_20 h = line.branch_equal 8 refl refl (λ same on. (h, rw on (omega arith)))
      (λ other off. ((h, step.room k n is order h.ready.read h.next other), rw off (omega arith)))

  pub keeps_at_24 : Right_at 0x24  -- store: add x28,x8,x5
  keeps_at_24 h = line.computes 9 refl refl (
    record { ready = record { holds = h.0.ready.holds; read = h.0.ready.read }; next = h.0.next },
    h.1,
    base_plus k is n.sender.stored h.0.ready.holds.index,
  )

  pub keeps_at_28 : Right_at 0x28  -- sw x10,16(x28)
  keeps_at_28 h =
      let holds = h.0.ready.holds in
      let made = step.stores_word k n is order holds h.1 h.2 in
      line.stores_word 10 (record n.sender { stored = n.sender.stored + 1 }) refl refl
      (slot_at k is (r.x28 + 16) n.sender.stored (sym (step.slot_is k n is order holds h.2))) made.order made.next (
        step.is_stored k n is order holds h.0.next,
        step.fits k n is order (record n.sender { stored = n.sender.stored + 1 }) h.0.ready.read refl (omega (arith, h.1)),
      )

  pub keeps_at_2C : Right_at 0x2C  -- sw x6,0(x8)
  keeps_at_2C h =
      let made = step.stores_index k n is order h.0 in
      line.stores_word 11 (record n.sender { headed = n.sender.headed + 1 }) refl refl (word_of k is 0 (omega arith) refl) made.order made.next (
        step.is_between k n is order h.0,
        step.fits k n is order (record n.sender { headed = n.sender.headed + 1 }) h.1 refl h.1.near,
        h.0.next,
      )

  pub keeps_at_30 : Right_at 0x30  -- addi x5,x6,0
  keeps_at_30 h = line.computes 12 refl refl (h.0, h.1, step.same_sum k n is order h.2)

  pub keeps_at_34 : Right_at 0x34  -- jal x0,next
  keeps_at_34 h = line.computes 13 refl refl h

  pub keeps_at_38 : Right_at 0x38  -- done: addi x6,x0,1
  keeps_at_38 h = line.computes 14 refl refl (h.0, h.1, refl)

  pub keeps_at_3C : Right_at 0x3C  -- sw x6,4(x8)
  keeps_at_3C h =
      let made = step.stores_mark k n is order h.0 h.1 h.2 in
      line.stores_word 15 (record n.sender { marked = 1 }) refl refl (word_of k is 4 (omega arith) refl)
      made.order made.next (step.is_marked k n is order h.0 h.1)

  pub keeps_at_40 : Right_at 0x40  -- addi x17,x0,93
  keeps_at_40 h = line.computes 16 refl refl (h, refl)

  pub keeps_at_44 : Right_at 0x44  -- ecall
  keeps_at_44 h = line.exits 17 refl refl h.1 h.0
