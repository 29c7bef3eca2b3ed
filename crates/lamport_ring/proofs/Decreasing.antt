-- What a plan needs of one block, whatever the sender's program, by what that owes.
use Rattle.std.proofs.Common.{ℕ, ◌+◌, ◌<◌, ◌≤◌, ◌≡◌, ◌==◌, inl, inr, true, false, [], Some, refl, sym, ◌∙◌, ap, arith}
use Rattle.std.specs.Prelude.{slice_index}
use Rattle.std.proofs.lemmas.Bool.{cases_eq, and_parts}
use Rattle.std.proofs.lemmas.Bool.Decides.{nat_tests}
use Rattle.hart.specs.State.{HartState}
use Rattle.poll_close.proofs.Ring.{Ring, runs, SenderBlock, offset, slot_store, tail_store, window, Standing, means_by, none_left, singles-length, pairs-length}
use Rattle.poll_close.proofs.Ring.{IsBlock, word_from, base_is, has_ended, nearer, BlockProgress, AllMayLoad, may_load}
use Rattle.step_machine.proofs.Modulo.{same_offset}
use Rattle.lamport_ring.specs.Invariant.{head_store, sender_stores, receiver_stores, Counters, sent, gone, CounterInvariant, Words, taken_so_far, freed}
use Rattle.lamport_ring.specs.Invariant.{Program, outline_of, waits, blocks_of, Marked}
use Rattle.lamport_ring.proofs.Laws.{Reads, SenderLaws}

-- where nothing is pending all that was stored has landed
module _ (k : SenderBlock) (n : Counters) (order : CounterInvariant k n) where
  all_sent : window (sender_stores k) (gone n.landed) (sent n.sender) ≡ [] → sent n.sender ≤ gone n.landed
  all_sent none = none_left (sender_stores k) (gone n.landed) (sent n.sender) none (omega (
    arith,
    pairs-length (slot_store k) (head_store k) (k.base + 4, 1) k.list,
    order.stored_all,
    order.headed_stored,
    order.marked_one,
  ))

  all_read : window (receiver_stores k) (freed n.landed) (taken_so_far n.receiver) ≡ [] → taken_so_far n.receiver ≤ freed n.landed
  all_read none = none_left (receiver_stores k) (freed n.landed) (taken_so_far n.receiver) none (omega (
    arith,
    singles-length (tail_store k) (k.base + 12, 1) k.list,
    order.tails_seen,
    order.seen_heads,
    order.heads_slots,
    order.slots_landed,
    order.stored_all,
    order.done_one,
  ))

-- one that waits at a full ring has words there, since a ring has two slots at least
ready : (k : SenderBlock) (n : Counters) (x6 : ℕ) (word : ℕ → ℕ) → IsBlock k → 2 ≤ k.size → CounterInvariant k n → Words k n.landed word
    → n.sender.headed ≡ n.sender.stored → n.sender.marked ≡ 0 → x6 ≡ offset k (n.sender.stored + 1)
    → window (sender_stores k) (gone n.landed) (sent n.sender) ≡ []
    → window (receiver_stores k) (freed n.landed) (taken_so_far n.receiver) ≡ [] → word (k.base + 8) ≡ x6
    → n.receiver.tails < n.landed.heads
ready k n x6 word is two order words heads unmarked next none empty found =
    let all : sent n.sender ≤ gone n.landed = all_sent k n order none in
    elim (cases_eq (n.sender.stored + 1) (n.landed.tails + k.size)) [
      | inl full ↦ omega (
        arith,
        full,
        two,
        all,
        all_read k n order empty,
        heads,
        unmarked,
        order.slots_landed,
        order.heads_landed,
        order.mark_landed,
        order.tails_landed,
        order.done_landed,
      )
      | inr free ↦
          let near : n.landed.tails ≡ n.sender.stored + 1 =
          same_offset k.size n.landed.tails (n.sender.stored + 1) (omega (arith, is.some_slot))
          (omega (arith, order.tails_landed, order.tails_seen, order.seen_heads, order.heads_slots, order.slots_landed))
          (omega (arith, free, order.room)) (sym words.tail ∙ found ∙ next) in
          absurd (omega (arith, near, order.tails_landed, order.tails_seen, order.seen_heads, order.heads_slots, order.slots_landed))
    ]

module _ (p : Program) (laws : SenderLaws p) where
  -- where it waits it is about to read the tail, which is what x6 is
  pub waiting : (k : SenderBlock) (n : Counters) (s : HartState) (word : ℕ → ℕ) → Standing (outline_of p) k n.sender s
      → waits p s word ≡ true → Reads k n.sender s × (word (k.base + 8) ≡ slice_index s.registers 6)
  waiting k n s word st wait =
      let test = and_parts (s.pc == p.reads) (word (slice_index s.registers 8 + 8) == slice_index s.registers 6) wait in
      let found : word (slice_index s.registers 8 + 8) ≡ slice_index s.registers 6 =
      let on : (word (slice_index s.registers 8 + 8) == slice_index s.registers 6) ≡ true = test.1 in
      grind (arith, nat_tests) in (
        laws.reads k n.sender s st (let on : (s.pc == p.reads) ≡ true = test.0 in grind (arith, nat_tests)),
        sym (ap (λ b. word (b + 8)) (base_is (outline_of p) k n.sender s st)) ∙ found,
      )

  marked : (k : SenderBlock) (n : Counters) (s : HartState) → CounterInvariant k n → Standing (outline_of p) k n.sender s
      → runs (Some s) ≡ false → window (sender_stores k) (gone n.landed) (sent n.sender) ≡ [] → n.landed.mark ≡ 1
  marked k n s order st off none =
      let h : Marked k n.sender = has_ended (outline_of p) k n.sender s st off in
      omega (arith, h.mark, all_sent k n order none, order.slots_landed, order.heads_landed, order.mark_landed)

  pub progress : BlockProgress (blocks_of p) 2
  progress = record {
    short = refl;
    nearer = λ k n s word v is order words st running none empty find on.
        nearer (blocks_of p) laws.listed laws.reasons k n s word v is order words st running none find on;
    ready = λ k n s word is two order words st running none empty wait.
        (let at = waiting k n s word st wait in
        ready k n (slice_index s.registers 6) word is two order words at.0.heads at.0.unmarked at.0.next none empty at.1);
    marked = λ k n s is order st off none. marked k n s order st off none;
  }

-- it reads the tail in its block
pub loads_tail : (p : Program) (ring : Ring) → 1 ≤ ring.least → AllMayLoad ring (means_by (blocks_of p)) p.reads 8 8
loads_tail p ring some = may_load (blocks_of p) ring some p.reads 8 8
    (λ k n s is st here. word_from k is (slice_index s.registers 8) 8 (base_is (outline_of p) k n.sender s st) (omega arith) refl)
