-- What a party reads in a tag of its round that isn't its own: what tells the other.
use Rattle.std.proofs.Common.{ℕ, ◌+◌, ◌-◌, ◌%◌, ◌<◌, ◌≤◌, ◌≡◌, true, List, None, sym, ◌∙◌, ap, subst, arith}
use Rattle.std.proofs.lemmas.Bool.{cases_lt}
use Rattle.memory.specs.Writes.{joined}
use Rattle.memory.proofs.Bytes.{joined-same}
use Rattle.step_machine.specs.declared.events.Entry.{Entry}
use Rattle.step_machine.specs.Names.{OpeningValue, pending, memory_byte, read_byte, read}
use Rattle.queue_parties.specs.Parties.{Party, other, QueueCounts, count}
use Rattle.queue_parties.proofs.Parties.{twice}
use Rattle.queue_parties.proofs.Positions.{same_slot}
use Rattle.slots_that_tell.specs.Slots.{Slots, IsSlots, gap, tag_of, memory_tag}
use Rattle.slots_that_tell.specs.{teller_hart, moved_on}
use Rattle.slots_that_tell.proofs.Looks.{after_all, newest-after, tidy-none, tidy-one}
use Rattle.slots_that_tell.proofs.Places.{tag-turn, slot-turn}
use Rattle.slots_that_tell.proofs.Sides.{Held, gaps, within}

module _ (q : Slots) (is : IsSlots q) (o : OpeningValue) (es : List Entry) (c : QueueCounts) (m : Party → ℕ) (held : Held q o es c m) (r : Party) (j : ℕ)
    (from : count r c ≤ j) (near : j < count r c + q.size) (theirs : m (other r) + gap q (other r) ≤ j) where
  abbrev found : ℕ
  found = read o es (teller_hart q r) (tag_of q j) q.tag_width

  abbrev after : ℕ
  after = joined (λ i. after_all (pending (teller_hart q r) es) (tag_of q j + i) (memory_byte o es (tag_of q j + i))) q.tag_width

  tag_read : found ≡ after
  tag_read = joined-same (λ i. read_byte o es (teller_hart q r) (tag_of q j + i))
      (λ i. after_all (pending (teller_hart q r) es) (tag_of q j + i) (memory_byte o es (tag_of q j + i))) q.tag_width
      (λ i lt. newest-after (tag_of q j + i) (memory_byte o es (tag_of q j + i)) None (pending (teller_hart q r) es))

  abbrev k : ℕ
  k = j - gap q (other r)

  turned : k + gap q (other r) ≡ j
  turned = omega (arith, theirs)

  sum : gap q r + gap q (other r) ≡ q.size
  sum = gaps q r

  own : (m r ≤ count r c) × (count r c ≤ m (other r) + gap q (other r))
  own = within q o es c m held r

  window : m (other r) ≤ m r + gap q r
  window = subst (λ s. m (other r) ≤ m s + gap q s) (twice r)
      (let w = within q o es c m held (other r) in omega (arith, w.0, w.1))

  made : moved_on q (m r) (pending (teller_hart q r) es) ≡ count r c
  made = (held.side r).count_is

  -- memory's, where the party hasn't stored the next round's tag
  in_memory : k < m r + gap q r → q.tells (other r) k found ≡ true
  in_memory less =
      let same : found ≡ memory_tag q o es j = tag_read ∙ tidy-none q is r (m r) (pending (teller_hart q r) es) (memory_byte o es) j (held.side r).own
      (λ i low high level. (let on : i + q.size ≤ j = same_slot q.size i j (omega (arith, is.some)) level (omega (arith, high, made, from)) in
      omega (arith, on, low, less, turned, sum))) in
      let slot : memory_tag q o es j ≡ memory_tag q o es k =
      ap (λ a. joined (λ i. memory_byte o es (a + i)) q.tag_width) (ap (tag_of q) (sym turned) ∙ tag-turn q is (other r) k) in
      ap (q.tells (other r) k) (same ∙ slot)
      ∙ held.tags (other r) k (omega (arith, theirs, turned)) (subst (λ s. k < m s + gap q s) (sym (twice r)) less)

  -- and else that pending store's
  is_pending : m r + gap q r ≤ k → q.tells (other r) k found ≡ true
  is_pending more =
      let i : ℕ = k - gap q r in
      let place : i + gap q r ≡ k = omega (arith, more) in
      let level : i % q.size ≡ j % q.size = sym (slot-turn q is r i) ∙ ap (λ x. x % q.size) place
      ∙ sym (slot-turn q is (other r) k) ∙ ap (λ x. x % q.size) turned in
      let has : q.tells (other r) (i + gap q r) after ≡ true =
      tidy-one q is r (m r) (pending (teller_hart q r) es) (memory_byte o es) j i (held.side r).own (omega (arith, place, more))
      (omega (arith, place, turned, made, near, sum)) (omega (arith, made, own.1, window, sum)) level in
      ap (q.tells (other r) k) tag_read ∙ subst (λ s. q.tells (other r) s after ≡ true) place has

  pub other_tag : (i : ℕ) × (i + gap q (other r) ≡ j) × (q.tells (other r) i (read o es (teller_hart q r) (tag_of q j) q.tag_width) ≡ true)
  other_tag = grind (arith, cases_lt, in_memory, is_pending)
