-- A queue whose indices open as offsets, whose copy of the tail opens as an old tail, and whose slots hold words just where some wait, is
-- at rest.
use Rattle.std.proofs.Common.{ℕ, ◌≡◌, ◌+◌, ◌-◌, ◌*◌, ◌/◌, ◌%◌, ◌<◌, ◌≤◌, ◌==◌, not, nat_lt, inl, inr, Bool, true, false, if◌then◌else◌, [], Some, ap, refl, sym}
use Rattle.std.proofs.Common.{subst, ◌∙◌, arith, add-zero}
use Rattle.std.proofs.lemmas.Bool.{cases_lt, lt-ltb, le-ltb, eqb-true}
use Rattle.std.proofs.lemmas.Bool.Decides.{nat_tests}
use Rattle.std.proofs.lemmas.Nat.{mod-mul-add}
use Rattle.std.proofs.Math.Nat.{add-mod_right, mod-eq_of_lt, mod-lt}
use Rattle.step_machine.specs.Names.{OpeningValue, memory_word}
use Rattle.spsc_queue.specs.RingBuffers.{Kind, lamport, fastforward, RingBuffer, slot_offset, capacity_of, IsQuiescent}
use Rattle.spsc_queue.specs.Calls.{IsBlock, buffer}
use Rattle.spsc_queue.proofs.Parts.{copied_in}
use Rattle.callers.specs.{kind_of, caches_tail, block_at, slots_after, waiting_between, start_in, waiting_in, spsc_of, IsOffset, waits_in, IsOldTail}
use Rattle.callers.specs.{AreAsOwedBelow, Queue, Located}

-- slot j by how many slots after slot `start` it comes, and back
after_within : (S start j : ℕ) → start < S → slots_after S start j < S
after_within S start j within = mod-lt (j + S - start) (omega (arith, within))

pub after_is : (S start j : ℕ) → start < S → j < S → slots_after S start j ≡ (if nat_lt j start then S - start + j else j - start)
after_is S start j within below = elim (cases_lt j start) [
  | inl less ↦
      let small : j + S - start < S = omega (arith, less) in
      let same : j + S - start ≡ S - start + j = omega (arith, within) in
      mod-eq_of_lt small ∙ same ∙ ap (λ b. if b then S - start + j else j - start) (sym (lt-ltb j start less))
  | inr more ↦
      let around : j + S - start ≡ 1 * S + (j - start) = omega (arith, more, within) in
      let small : j - start < S = omega (arith, below) in
      ap (λ (n : ℕ). n % S) around ∙ mod-mul-add 1 S (j - start) small
      ∙ ap (λ b. if b then S - start + j else j - start) (sym (le-ltb j start more))
]

-- place i from `start` on is slot j
pub on_from : (S start j : ℕ) → start < S → j < S → (start + slots_after S start j) % S ≡ j
on_from S start j within below = ap (λ (n : ℕ). (start + n) % S) (after_is S start j within below) ∙ by (nat_lt j start) refl
  where
    by : (b : Bool) → nat_lt j start ≡ b → (start + (if b then S - start + j else j - start)) % S ≡ j
    by true less =
        let around : start + (S - start + j) ≡ 1 * S + j = omega (arith, within) in
        ap (λ (n : ℕ). n % S) around ∙ mod-mul-add 1 S j below
    by false more =
        let least : start ≤ j = grind (arith, nat_tests, more) in
        let here : start + (j - start) ≡ j = omega (arith, least) in
        ap (λ (n : ℕ). n % S) here ∙ mod-eq_of_lt below

pub back_from : (S start i : ℕ) → start < S → i < S → slots_after S start ((start + i) % S) ≡ i
back_from S start i within below = elim (cases_lt (start + i) S) [
  | inl less ↦
      let here : (start + i) % S ≡ start + i = mod-eq_of_lt less in
      let around : start + i + S - start ≡ 1 * S + i = omega arith in
      ap (λ (n : ℕ). (n + S - start) % S) here ∙ ap (λ (n : ℕ). n % S) around ∙ mod-mul-add 1 S i below
  | inr past ↦
      let whole : start + i ≡ 1 * S + (start + i - S) = omega (arith, past) in
      let small : start + i - S < S = omega (arith, within, below) in
      let here : (start + i) % S ≡ start + i - S = ap (λ (n : ℕ). n % S) whole ∙ mod-mul-add 1 S (start + i - S) small in
      let around : start + i - S + S - start ≡ i = omega (arith, past) in
      ap (λ (n : ℕ). (n + S - start) % S) here ∙ ap (λ (n : ℕ). n % S) around ∙ mod-eq_of_lt below
]

-- no more words wait than the queue holds, and the sender's index stands after them
waiting_fits : (k : Kind) (S start end word : ℕ) → start < S → waiting_between k S start end word ≤ capacity_of k S
waiting_fits lamport S start end word within = omega (arith, within, after_within S start end within)
waiting_fits fastforward S start end word within = by (start == end) (word == 0)
  where
    by : (b z : Bool) → (if b then (if z then 0 else S) else slots_after S start end) ≤ S
    by true true = omega arith
    by true false = omega arith
    by false z = omega (arith, after_within S start end within)

ends_after : (k : Kind) (S start end word : ℕ) → start < S → end < S → (start + waiting_between k S start end word) % S ≡ end
ends_after lamport S start end word within below = on_from S start end within below
ends_after fastforward S start end word within below = by (start == end) refl (word == 0)
  where
    by : (b : Bool) → (start == end) ≡ b → (z : Bool) → (start + (if b then (if z then 0 else S) else slots_after S start end)) % S ≡ end
    by true same true = ap (λ (n : ℕ). n % S) (add-zero start) ∙ mod-eq_of_lt within ∙ eqb-true start end same
    by true same false = add-mod_right start S ∙ mod-eq_of_lt within ∙ eqb-true start end same
    by false other z = on_from S start end within below

module _ (o : OpeningValue) (l : Located) (within : l.start < l.queue.slots) (start : l.start ≡ start_in o l.queue) (waiting : l.waiting ≡ waiting_in o l.queue)
    (head : IsOffset l.queue (memory_word o [] l.queue.base)) (tail : IsOffset l.queue (memory_word o [] (l.queue.base + 64))) where
  abbrev q : Queue
  q = l.queue

  abbrev k : Kind
  k = kind_of l.queue.kind

  abbrev S : ℕ
  S = l.queue.slots

  abbrev s : ℕ
  s = l.start

  abbrev r : RingBuffer
  r = buffer (spsc_of l)

  -- the slot of the sender's index
  abbrev end : ℕ
  end = memory_word o [] l.queue.base / 4

  count_is : l.waiting ≡ waiting_between k S s end (memory_word o [] (l.queue.base + 128 + 4 * s))
  count_is = waiting ∙ ap (λ n. waiting_between k S n end (memory_word o [] (l.queue.base + 128 + 4 * n))) (sym start)

  fits : l.waiting ≤ capacity_of k S
  fits = subst (λ n. n ≤ capacity_of k S) (sym count_is) (waiting_fits k S s end (memory_word o [] (l.queue.base + 128 + 4 * s)) within)

  ends : (s + l.waiting) % S ≡ end
  ends = ap (λ n. (s + n) % S) count_is ∙ ends_after k S s end (memory_word o [] (l.queue.base + 128 + 4 * s)) within (omega (arith, head.1))

  waits_at : (i : ℕ) → i < S → waits_in o q ((s + i) % S) ≡ nat_lt i l.waiting
  waits_at i below = ap (λ n. nat_lt (slots_after S n ((s + i) % S)) (waiting_in o q)) (sym start)
      ∙ ap (λ n. nat_lt n (waiting_in o q)) (back_from S s i within below)
      ∙ ap (nat_lt i) (sym waiting)

  pub at_rest : (caches_tail q.kind ≡ true → IsOldTail o q (memory_word o [] (q.base + 4)))
      → (k ≡ fastforward → AreAsOwedBelow o q (q.base + 128 + 4 * S)) → IsQuiescent r o []
  at_rest copy slots = record {
    fits = fits;
    head = (let whole : memory_word o [] q.base ≡ 4 * end = omega (arith, head.0) in whole) ∙ ap (λ (n : ℕ). 4 * n) (sym ends);
    tail = (let whole : memory_word o [] (q.base + 64) ≡ 4 * start_in o q = omega (arith, tail.0) in whole)
        ∙ ap (λ (n : ℕ). 4 * n) (sym start ∙ sym (mod-eq_of_lt within) ∙ sym (ap (λ (n : ℕ). n % S) (add-zero s)));
    pending = λ h. refl;
    words = λ is j below zero.
        let there = slot_is is j (omega (arith, below, fits, held_all k S)) in grind (arith, nat_tests, there, below, zero);
    free = λ is j from below. let none = slot_is is j below in grind (arith, nat_tests, none, from);
    copy = copied;
  }
    where
      held_all : (k : Kind) (S : ℕ) → capacity_of k S ≤ S
      held_all lamport S = omega arith
      held_all fastforward S = omega arith

      slot_is : k ≡ fastforward → (i : ℕ) → i < S → (memory_word o [] (q.base + 128 + 4 * ((s + i) % S)) == 0) ≡ not (nat_lt i l.waiting)
      slot_is is i below = let small : (s + i) % S < S = mod-lt (s + i) (omega (arith, within)) in
          slots is ((s + i) % S) (omega (arith, small)) ∙ ap (λ b. not b) (waits_at i below)

      few : k ≡ lamport → l.waiting < S
      few is = let most : l.waiting ≤ S - 1 = subst (λ k. l.waiting ≤ capacity_of k S) is fits in omega (arith, most, within)

      copied : (c : ℕ) → r.copy ≡ Some c → (j : ℕ) × (l.waiting < j) × (j ≤ S) × (memory_word o [] c ≡ slot_offset r j)
      copied c is =
          let at = copied_in k (caches_tail q.kind) q.base c is in
          let w : ℕ = memory_word o [] (q.base + 4) in
          let owed = copy at.2 in
          let slot : w ≡ 4 * (w / 4) = omega (arith, owed.0.0) in
          let small : w / 4 < S = omega (arith, owed.0.1) in
          elim owed.1 [
            | inl same ↦ (
              S,
              few at.1,
              omega arith,
              ap (memory_word o []) at.0 ∙ slot ∙ ap (λ (n : ℕ). 4 * n) (same ∙ sym start ∙ sym (mod-eq_of_lt within) ∙ sym (add-mod_right s S)),
            )
            | inr past ↦
                let more : waiting_in o q < slots_after S s (w / 4) = subst (λ n. waiting_in o q < slots_after S n (w / 4)) (sym start) past in (
                  slots_after S s (w / 4),
                  omega (arith, more, waiting),
                  omega (arith, after_within S s (w / 4) within),
                  ap (memory_word o []) at.0 ∙ slot ∙ ap (λ (n : ℕ). 4 * n) (sym (on_from S s (w / 4) within small)),
                )
          ]

-- it is a block wherever its indices open
pub at_any : (M : ℕ) (q : Queue) (start waiting other left : ℕ) → IsBlock M (block_at q start waiting) → IsBlock M (block_at q other left)
at_any M q start waiting other left block =
    record { aligned = block.aligned; some_slots = block.some_slots; inside = block.inside; small = block.small }
