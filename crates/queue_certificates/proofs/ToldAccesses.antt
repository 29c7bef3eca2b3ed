-- What single accesses of a party come to: the queue's side of a checker's transfer. The hart's side is what its instruction wants and
-- leaves.
use Rattle.std.proofs.Common.{ℕ, ◌+◌, ◌-◌, ◌%◌, ◌^◌, ◌<◌, ◌≤◌, ◌≡◌, inl, inr, true, false, if◌then◌else◌, sym, ◌∙◌, ap, arith}
use Rattle.memory.specs.declared.writes.Write.{Write}
use Rattle.memory.proofs.Bytes.{covers-from}
use Rattle.queue_parties.specs.Parties.{Party, other, QueueCounts, count, known, with_known}
use Rattle.queue_parties.proofs.Parties.{known-set}
use Rattle.queue_parties.proofs.Positions.{ahead, ahead-is}
use Rattle.slots_that_tell.specs.Slots.{Slots, IsSlots, gap, tag_of, IsTagByte, is_tag, position_at, tagged_slot, KeepsOff}
use Rattle.slots_that_tell.specs.Telling.{owned_end, told, learned, after_load, moved, MovesOn, FillsOwned}
use Rattle.slots_that_tell.proofs.Places.{element_at-tag, is_tag-tag, moved-tag, moved-leaves, off-leaves, fills-leaves}
use Rattle.queue_certificates.specs.ToldRuns.{OwnsAllButTags}

module _ (q : Slots) (is : IsSlots q) (p : Party) (c : QueueCounts) where
  -- a load of anything but a whole tag leaves what is known
  pub elsewhere : (a width v : ℕ) → is_tag q a width ≡ false → after_load q p a width v c ≡ c
  elsewhere a width v off = ap (λ b. if b then learned q p (position_at q (count p c) a) v c else c) off

  -- of a whole tag of the own round: its position, what is known where it tells the party of that, and else nothing
  pub position_of_tag : (k : ℕ) → count p c ≤ k → k < count p c + q.size → position_at q (count p c) (tag_of q k) ≡ k
  position_of_tag k from near =
      let t : ℕ = k - count p c in
      let sum : count p c + t ≡ k = omega (arith, from) in
      ap (λ i. count p c + ahead q.size (count p c) i) (element_at-tag q is k ∙ ap (λ j. j % q.size) (sym sum))
      ∙ ap (λ j. count p c + j) (ahead-is q.size (count p c) t (omega (arith, sum, near))) ∙ sum

  abbrev pub knows_of : ℕ → QueueCounts
  knows_of k = with_known p (known p c + (told q p k - known p c)) c

  pub tag_loaded : (k v : ℕ) → count p c ≤ k → k < count p c + q.size → after_load q p (tag_of q k) q.tag_width v c ≡ (if q.tells p k v then knows_of k else c)
  tag_loaded k v from near = ap (λ b. if b then learned q p (position_at q (count p c) (tag_of q k)) v c else c) (is_tag-tag q is k)
      ∙ ap (λ j. learned q p j v c) (position_of_tag k from near)

  -- and it then owns that
  pub told_owns : (k : ℕ) → k < owned_end q p (knows_of k)
  told_owns k =
      let n : known p (knows_of k) ≡ known p c + (told q p k - known p c) = known-set p (known p c + (told q p k - known p c)) c in
      omega (arith, n)

  -- a store to the own tag of a number that tells the other
  pub moves : (w : Write) → w.addr ≡ tag_of q (count p c) → w.width ≡ q.tag_width
      → q.tells (other p) (count p c + gap q p) (w.value % 256 ^ q.tag_width) ≡ true → count p c < owned_end q p c
      → MovesOn q p c w × (moved q (count p c) w ≡ count p c + 1)
  moves w place width word owned = grind (arith, moved-tag)

  -- a store, or a load, of bytes of the slot of an owned position, beside its tag
  abbrev pub IsBeside : (k a width : ℕ) → Type 0
  IsBeside k a width = (tagged_slot q k ≤ a) × (a + width ≤ tagged_slot q k + q.width) × ((x : ℕ) → a ≤ x → x < a + width → IsTagByte q k x → ⊥)

  pub fills : (w : Write) (k : ℕ) → count p c ≤ k → k < owned_end q p c → IsBeside k w.addr w.width
      → FillsOwned q p c w × (moved q (count p c) w ≡ count p c)
  fills w k from before beside = (owned, moved-leaves q is (count p c) w (fills-leaves q is p c w owned))
    where
      owned : FillsOwned q p c w
      owned x on =
          let within = covers-from w x on in
          inr (record {
            position = k;
            from = from;
            before = before;
            byte = (omega (arith, beside.0, within.0), omega (arith, beside.1, within.1));
            no_tag = beside.2 x within.0 within.1;
          })

  pub loads_owned : (a width k : ℕ) → count p c ≤ k → k < owned_end q p c → IsBeside k a width → OwnsAllButTags q p c a width
  loads_owned a width k from before beside x within slots = inr (record {
    position = k;
    from = from;
    before = before;
    byte = (omega (arith, beside.0, within.0), omega (arith, beside.1, within.1));
    no_tag = beside.2 x within.0 within.1;
  })

  -- a load of a whole tag
  pub loads_tag : (k : ℕ) → OwnsAllButTags q p c (tag_of q k) q.tag_width
  loads_tag k x within slots = inl (k, within)

  -- a store beside the queue
  pub off : (w : Write) → KeepsOff q w → FillsOwned q p c w × (moved q (count p c) w ≡ count p c)
  off w keeps = ((λ x on. inl (keeps x on)), moved-leaves q is (count p c) w (off-leaves q is w keeps))
