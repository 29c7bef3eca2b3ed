-- The steps of a sender, wherever they stand in its listing: what each leaves of what holds, of the order of the
-- numbers, and which store it makes.
use Rattle.std.proofs.Common.{ℕ, pos, suc, ◌+◌, ◌*◌, ◌%◌, ◌<◌, ◌≤◌, ◌≡◌, ◌≢◌, ◌+ℤ◌, inl, inr, [], ◌∷◌, length, Some, refl, sym, ◌∙◌, ap, arith, add-zero}
use Rattle.std.proofs.Math.Nat.{add-mod_right, zero-mod}
use Rattle.std.specs.Prelude.{slice_index}
use Rattle.std.proofs.lemmas.Bool.{cases_eq}
use Rattle.hart.specs.Effects.{word as word_of_sum}
use Rattle.poll_close.specs.Invariant.Blocks.{SenderBlock, offset, slot, slot_store, window, AreNext}
use Rattle.step_machine.proofs.{word-plus, offset_step, offset_wrap}
use Rattle.poll_close.proofs.Windows.{pairs-each}
use Rattle.poll_close.proofs.Blocks.{IsBlock, offset_low}
use Rattle.poll_close.proofs.BlockLaws.{found_in, in_memory}
use Rattle.lamport_ring.specs.Invariant.{head_store, sender_stores, Sent, Counters, sent, gone, CounterInvariant, Words, Between, HoldsWord, Asked, HasRead}
use Rattle.lamport_ring.specs.Invariant.{Room, StoredWord, Marked}
use Rattle.lamport_ring.proofs.Stores.{store_slot, store_head, store_mark}

-- a store that the sender makes: its numbers are in order, and it is the next one of its list
pub record Stores (k : SenderBlock) (n : Counters) (made : Sent) (x : ℕ × ℕ) : Type 0 where
  pub order : CounterInvariant k (record n { sender = made })
  pub next : AreNext (sender_stores k) (sent n.sender) (sent made) (x ∷ [])

-- before it has read a tail, x7 is that of none
pub none_read : (k : SenderBlock) (n : Sent) → IsBlock k → n.stored ≡ 0 → n.seen ≡ 0 → HasRead k n 0
none_read k n is stored seen = record { near = omega (arith, is.some_slot, stored); is = rw seen (omega (arith, zero-mod k.size)) }

module _ (k : SenderBlock) (n : Counters) (is : IsBlock k) (order : CounterInvariant k n) where
  -- it is given a word of its list, or there is none
  pub given : {x5 : ℕ} → Between k n.sender → x5 ≡ offset k n.sender.stored → n.sender.asked < length k.list
      → Asked k (record n.sender { asked = suc n.sender.asked }) x5 (slice_index k.list n.sender.asked) 1
  given b index more = record {
    heads = b.heads;
    unmarked = b.unmarked;
    index = index;
    answer = inl (refl, omega (arith, b.taken), omega (arith, b.taken, more), ap (slice_index k.list) b.taken);
  }

  pub given_none : {x5 x10 : ℕ} → Between k n.sender → x5 ≡ offset k n.sender.stored → length k.list ≤ n.sender.asked
      → Asked k n.sender x5 x10 0
  given_none b index all = record {
    heads = b.heads;
    unmarked = b.unmarked;
    index = index;
    answer = inr (refl, b.taken, omega (arith, b.taken, all, order.stored_all));
  }

  -- which of the two it was
  pub holds : {x5 x10 x11 : ℕ} → Asked k n.sender x5 x10 x11 → x11 ≢ 0 → HoldsWord k n.sender x5 x10
  holds h some = elim h.answer [
    | inl is_word ↦ record { taken = is_word.1; heads = h.heads; unmarked = h.unmarked; within = is_word.2; word = is_word.3; index = h.index }
    | inr none ↦ absurd (some none.0)
  ]

  pub none_left : {x5 x10 x11 : ℕ} → Asked k n.sender x5 x10 x11 → x11 ≡ 0 → Between k n.sender × (n.sender.stored ≡ length k.list)
  none_left h none = elim h.answer [
    | inl is_word ↦ absurd (omega (arith, none, is_word.0))
    | inr all ↦ (record { taken = all.1; heads = h.heads; unmarked = h.unmarked }, all.2)
  ]

  -- the offset after the next word's: one slot on, or the first
  pub sum_of : {x5 : ℕ} → x5 ≡ offset k n.sender.stored → word_of_sum (pos x5 +ℤ pos 4) ≡ x5 + 4
  sum_of {x5} index = word-plus x5 4 (omega (arith, is.inside, is.small, index, offset_low k is n.sender.stored))

  pub same_sum : {x6 : ℕ} → x6 ≡ offset k n.sender.stored → word_of_sum (pos x6 +ℤ pos 0) ≡ offset k n.sender.stored
  same_sum {x6} index = word-plus x6 0 (omega (arith, is.inside, is.small, index, offset_low k is n.sender.stored)) ∙ add-zero x6 ∙ index

  pub one_on : {x5 x6 : ℕ} → x5 ≡ offset k n.sender.stored → x6 ≡ x5 + 4 → x6 ≢ 4 * k.size → x6 ≡ offset k (n.sender.stored + 1)
  one_on index sum other =
      let step : offset k n.sender.stored + 4 ≡ offset k (n.sender.stored + 1) =
      offset_step k.size n.sender.stored (omega (arith, is.some_slot)) (omega (arith, index, sum, other)) in
      omega (arith, index, sum, step)

  pub first_again : {x5 : ℕ} → x5 ≡ offset k n.sender.stored → x5 + 4 ≡ 4 * k.size → 0 ≡ offset k (n.sender.stored + 1)
  first_again index full = sym (offset_wrap k.size n.sender.stored (omega (arith, is.some_slot)) (omega (arith, index, full)))

  -- what it finds at the tail is the word of memory, since it never stores there
  pub tail_found : (word : ℕ → ℕ) → Words k n.landed word
      → found_in (window (sender_stores k) (gone n.landed) (sent n.sender)) word (k.base + 8) ≡ offset k n.landed.tails
  tail_found word words =
      in_memory (sender_stores k) (gone n.landed) (sent n.sender) word (k.base + 8)
      (λ t x from below. pairs-each (λ y. y.0 ≢ k.base + 8) (slot_store k) (head_store k) (k.base + 4, 1) k.list
      (λ j less. (λ same. omega arith, λ same. omega arith)) (λ same. omega arith) t x) ∙ words.tail

  -- it reads the tail that landed last, and holds its word as before
  pub same_word : {x5 x10 : ℕ} (tails : ℕ) → HoldsWord k n.sender x5 x10 → HoldsWord k (record n.sender { seen = tails }) x5 x10
  same_word tails h = record {
    taken = h.taken;
    heads = h.heads;
    unmarked = h.unmarked;
    within = h.within;
    word = h.word;
    index = h.index;
  }

  pub has_read : {v : ℕ} → v ≡ offset k n.landed.tails → HasRead k (record n.sender { seen = n.landed.tails }) v
  has_read read = record { near = order.room; is = read }

  -- a tail that was read goes on fitting what it stores
  pub fits : {x7 : ℕ} (made : Sent) → HasRead k n.sender x7 → made.seen ≡ n.sender.seen → made.stored + 1 ≤ n.sender.seen + k.size
      → HasRead k made x7
  fits made h same near = record { near = omega (arith, same, near); is = rw same h.is }

  -- where the offset after the next word's isn't the tail that was read, the slot there is free
  pub room : {x6 x7 : ℕ} → HasRead k n.sender x7 → x6 ≡ offset k (n.sender.stored + 1) → x7 ≢ x6 → Room k n.sender
  room {x6} {x7} h next other =
      elim (cases_eq (n.sender.stored + 1) (n.sender.seen + k.size)) [
        | inl full ↦
            let wrapped : (n.sender.stored + 1) % k.size ≡ n.sender.seen % k.size = ap (λ j. j % k.size) full ∙ add-mod_right n.sender.seen k.size in
            absurd (other (h.is ∙ ap (λ o. 4 * o) (sym wrapped) ∙ sym next))
        | inr some ↦ omega (arith, some, h.near)
      ]

  -- the word into its slot
  pub slot_is : {x5 x10 x28 : ℕ} → HoldsWord k n.sender x5 x10 → x28 ≡ k.base + x5 → slot k.size k.base n.sender.stored ≡ x28 + 16
  slot_is h place = omega (arith, h.index, place)

  pub stores_word : {x5 x10 x28 : ℕ} → HoldsWord k n.sender x5 x10 → Room k n.sender → x28 ≡ k.base + x5
      → Stores k n (record n.sender { stored = n.sender.stored + 1 }) (x28 + 16, x10)
  stores_word h free place = record {
    order = omega (arith, h.heads, h.unmarked, h.within, free);
    next = (omega arith, store_slot k n.sender.stored (sent n.sender) h.within (omega (arith, h.heads, h.unmarked)) ∙ rw (slot_is h place, h.word) refl);
  }

  pub is_stored : {x5 x6 x10 : ℕ} → HoldsWord k n.sender x5 x10 → x6 ≡ offset k (n.sender.stored + 1)
      → StoredWord k (record n.sender { stored = n.sender.stored + 1 }) x6
  is_stored h next = record { taken = h.taken; heads = omega (arith, h.heads); unmarked = h.unmarked; next = next }

  -- then the head
  pub stores_index : {x6 : ℕ} → StoredWord k n.sender x6 → Stores k n (record n.sender { headed = n.sender.headed + 1 }) (k.base + 0, x6)
  stores_index h = record {
    order = omega (arith, h.heads);
    next = (
      omega arith,
      store_head k n.sender.headed (sent n.sender) (omega (arith, h.heads, order.stored_all))
          (omega (arith, h.heads, h.unmarked)) ∙ ap Some (rw (add-zero k.base, h.next, ← h.heads) refl),
    );
  }

  pub is_between : {x6 : ℕ} → StoredWord k n.sender x6 → Between k (record n.sender { headed = n.sender.headed + 1 })
  is_between h = record { taken = h.taken; heads = h.heads; unmarked = h.unmarked }

  -- at the end the mark
  pub stores_mark : {x6 : ℕ} → Between k n.sender → n.sender.stored ≡ length k.list → x6 ≡ 1
      → Stores k n (record n.sender { marked = 1 }) (k.base + 4, x6)
  stores_mark b all one = record {
    order = omega (arith, b.heads ∙ all);
    next = (omega (arith, b.unmarked), store_mark k (sent n.sender) (omega (arith, b.heads, b.unmarked, all)) ∙ rw one refl);
  }

  pub is_marked : Between k n.sender → n.sender.stored ≡ length k.list → Marked k (record n.sender { marked = 1 })
  is_marked b all = record { taken = b.taken ∙ all; heads = b.heads ∙ all; mark = refl }
