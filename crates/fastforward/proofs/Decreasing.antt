-- What a plan needs of one block of FastForward.
use Rattle.std.proofs.Common.{ℕ, ◌+◌, ◌<◌, ◌≤◌, ◌≡◌, ◌≢◌, ◌==◌, inl, inr, true, false, not, [], Some, refl, ◌∙◌, ap, arith, lit≤}
use Rattle.std.specs.Prelude.{slice_index}
use Rattle.std.proofs.lemmas.Bool.{cases_eq, and_parts}
use Rattle.std.proofs.lemmas.Bool.Decides.{nat_tests}
use Rattle.hart.specs.State.{HartState}
use Rattle.hart.specs.declared.status.Status.TheVariants as status
use Rattle.poll_close.proofs.Ring.{Decreases, runs, rank_of, next_by, SenderBlock, slot, slot_store, tail_store, unsent_of, unread_of, stands, SenderIs}
use Rattle.poll_close.proofs.Ring.{Standing, none_left, singles-length, pairs-length, IsBlock, slot_at, stands_at, has_ended, nearer, BlockProgress}
use Rattle.poll_close.proofs.Ring.{ranking_decreases, AllMayLoad, may_load}
use Rattle.fastforward.specs.{fastforward, fastforward_blocks, fastforward_means, waits, fastforward_ranking, null_store, sender_stores, receiver_stores}
use Rattle.fastforward.specs.{Counters, sent, gone, taken_so_far, freed, CounterInvariant, Words, Marked, sender}
use Rattle.fastforward.proofs.Sender.{fastforward_sender, reasons}
use Rattle.fastforward.proofs.FastForwardLaws.{laws}

-- where nothing is pending all that was stored has landed
module _ (k : SenderBlock) (n : Counters) (order : CounterInvariant k n) where
  pub all_sent : unsent_of fastforward_blocks k n ≡ [] → sent n.sender ≤ gone n.landed
  all_sent none = none_left (sender_stores k) (gone n.landed) (sent n.sender) none
      (omega (arith, singles-length (slot_store k) (k.base + 4, 1) k.list, order.stored_all, order.marked_one))

  pub all_read : unread_of fastforward_blocks k n ≡ [] → taken_so_far n.receiver ≤ freed n.landed
  all_read none = none_left (receiver_stores k) (freed n.landed) (taken_so_far n.receiver) none (omega (
    arith,
    pairs-length (null_store k) (tail_store k) (k.base + 12, 1) k.list,
    order.tails_nulls,
    order.nulls_slots,
    order.slots_landed,
    order.stored_all,
    order.done_one,
  ))

-- about to read its slot
at_10 : (k : SenderBlock) (n : Counters) (s : HartState) → (st : Standing sender k n.sender s) → s.pc ≡ 0x10
    → (s ≡ stands sender k 0x10 n.sender st.written) × SenderIs sender 0x10 k n.sender st.written
at_10 k n s st is = stands_at sender k n.sender s st 0x10 is (omega arith) (omega arith)

place : (k : SenderBlock) (n : Counters) (s : HartState) → Standing sender k n.sender s → s.pc ≡ 0x10
    → slice_index s.registers 28 + 16 ≡ slot k.size k.base n.sender.stored
place k n s st is =
    let at = at_10 k n s st is in
    ap (λ (z : HartState). slice_index z.registers 28 + 16) at.0
    ∙ (let same : st.written.x28 + 16 ≡ slot k.size k.base n.sender.stored = omega (arith, at.1.0.index, at.1.1) in same)

-- a slot that is not empty when all has landed holds a word that the receiver has not taken
ready : (k : SenderBlock) (n : Counters) (s : HartState) (word : ℕ → ℕ) → IsBlock k → 1 ≤ k.size → CounterInvariant k n
    → Words k n.landed word → Standing sender k n.sender s → s.status ≡ status.Running
    → unsent_of fastforward_blocks k n ≡ [] → unread_of fastforward_blocks k n ≡ [] → waits s word ≡ true
    → n.receiver.tails < n.landed.slots
ready k n s word is one order words st running none empty wait =
    let test = and_parts (s.pc == 0x10) (not (word (slice_index s.registers 28 + 16) == 0)) wait in
    let here : s.pc ≡ 0x10 = let on : (s.pc == 0x10) ≡ true = test.0 in grind (arith, nat_tests) in
    let at = at_10 k n s st here in
    let some : word (slice_index s.registers 28 + 16) ≢ 0 =
    let off : not (word (slice_index s.registers 28 + 16) == 0) ≡ true = test.1 in
    grind (arith, nat_tests) in
    elim (cases_eq n.sender.stored (n.landed.nulls + k.size)) [
      | inl full ↦ omega (
        arith,
        full,
        is.some_slot,
        all_sent k n order none,
        all_read k n order empty,
        at.1.0.unmarked,
        order.slots_landed,
        order.mark_landed,
        order.nulls_landed,
        order.tails_landed,
        order.done_landed,
        order.tails_nulls,
      )
      | inr free ↦ absurd (some (ap word (place k n s st here)
          ∙ words.empty n.sender.stored (omega (arith, order.slots_landed)) (omega (arith, free, order.room))))
    ]

marked : (k : SenderBlock) (n : Counters) (s : HartState) → IsBlock k → CounterInvariant k n → Standing sender k n.sender s
    → runs (Some s) ≡ false → unsent_of fastforward_blocks k n ≡ [] → n.landed.mark ≡ 1
marked k n s is order st off none =
    let h : Marked k n.sender = has_ended sender k n.sender s st off in
    omega (arith, h.mark, all_sent k n order none, order.slots_landed, order.mark_landed)

pub fastforward_progress : BlockProgress fastforward_blocks 1
fastforward_progress = record {
  short = refl;
  nearer = λ k n s word v is order words st running none empty find on.
      nearer fastforward_blocks fastforward_sender reasons k n s word v is order words st running none find on;
  ready = ready;
  marked = marked;
}

pub fastforward_decreases : Decreases fastforward fastforward_means (rank_of fastforward_ranking) (next_by fastforward_ranking)
fastforward_decreases = ranking_decreases fastforward_blocks laws 1 (lit≤ tt) fastforward_progress

-- it reads its slot
pub fastforward_loads : AllMayLoad fastforward fastforward_means 0x10 28 16
fastforward_loads = may_load fastforward_blocks fastforward (lit≤ tt) 0x10 28 16
    (λ k n s is st here. slot_at k is (slice_index s.registers 28 + 16) n.sender.stored (place k n s st here))
