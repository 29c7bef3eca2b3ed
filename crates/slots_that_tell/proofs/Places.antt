-- Where slots and tags lie.
use Rattle.std.proofs.Common.{ℕ, ◌+◌, ◌-◌, ◌*◌, ◌%◌, ◌^◌, ◌<◌, ◌≤◌, ◌≡◌, ◌≢◌, inl, inr, Bool, true, false, if◌then◌else◌, refl, sym, ◌∙◌, ap, subst}
use Rattle.std.proofs.Common.{arith}
use Rattle.std.specs.Int.{byte_at}
use Rattle.std.proofs.Math.Nat.{mod-mod, add-mul-mod_self_left}
use Rattle.std.proofs.lemmas.Bool.{eq-eqb}
use Rattle.memory.specs.declared.writes.Write.{Write}
use Rattle.memory.specs.Writes.{covers, byte_after, joined}
use Rattle.memory.proofs.Bytes.{joined-same, covers-yes, covers-from}
use Rattle.memory.proofs.Joined.{joined-bytes}
use Rattle.queue_parties.proofs.Parties.{both-equal}
use Rattle.queue_parties.specs.{Party, the_sender, the_receiver, QueueCounts, IsInBytes, slot_from}
use Rattle.queue_parties.proofs.Positions.{in_slot}
use Rattle.queue_parties.proofs.Positions as positions
use Rattle.slots_that_tell.specs.Slots.{Slots, IsSlots, gap, tag_of, IsSlotByte, IsTagByte, IsOutside, KeepsOff, element_at, is_tag}
use Rattle.slots_that_tell.specs.Telling.{moved, FillsOwned, IsTagStore}

-- a write that leaves all tags
abbrev pub LeavesTags : Slots → Write → Type 0
LeavesTags q w = (k x : ℕ) → IsTagByte q k x → covers w x ≡ false

module _ (q : Slots) (is : IsSlots q) where
  in-element : (k x : ℕ) → IsTagByte q k x → IsInBytes (slot_from q.tags q.tag_stride q.size k) q.tag_stride x
  in-element k x at = (omega (arith, at.0), omega (arith, at.1, is.tag_within))

  pub one-tag : (j k x : ℕ) → IsTagByte q j x → IsTagByte q k x → j % q.size ≡ k % q.size
  one-tag j k x of_j of_k = positions.one-slot q.tags q.tag_stride q.size is.some j k x (in-element j x of_j) (in-element k x of_k)

  pub one-slot : (j k x : ℕ) → IsSlotByte q j x → IsSlotByte q k x → j % q.size ≡ k % q.size
  one-slot = positions.one-slot q.slots q.width q.size is.some

  pub far : (j k x : ℕ) → IsSlotByte q j x → IsSlotByte q k x → j < k → j + q.size ≤ k
  far = positions.far q.slots q.width q.size is.some

  slot-within : (k x : ℕ) → IsSlotByte q k x → IsInBytes q.slots (q.size * q.width) x
  slot-within = positions.slot-within q.slots q.width q.size is.some

  tag-within : (k x : ℕ) → IsTagByte q k x → IsInBytes q.tags (q.size * q.tag_stride) x
  tag-within k x at = positions.slot-within q.tags q.tag_stride q.size is.some k x (in-element k x at)

  pub slot-inside : (k x : ℕ) → IsSlotByte q k x → IsOutside q x → ⊥
  slot-inside k x at out = out (inl (slot-within k x at))

  pub tag-inside : (k x : ℕ) → IsTagByte q k x → IsOutside q x → ⊥
  tag-inside k x at out = out (inr (tag-within k x at))

  -- a byte of a tag that is a slot's is its own slot's
  pub tag-in-slot : (j k x : ℕ) → IsTagByte q j x → IsSlotByte q k x → IsSlotByte q j x
  tag-in-slot j k x tag slot = elim is.tags_lie [
    | inl same ↦ subst (λ w. IsInBytes (slot_from q.slots w q.size j) w x) same.1
        (subst (λ s. IsInBytes (slot_from s q.tag_stride q.size j) q.tag_stride x) same.0 (in-element j x tag))
    | inr apart ↦ absurd (let one = slot-within k x slot in let two = tag-within j x tag in elim apart [
      | inl after ↦ omega (arith, one.1, two.0, after)
      | inr before ↦ omega (arith, one.0, two.1, before)
    ])
  ]

  pub tag-same : (j k : ℕ) → j % q.size ≡ k % q.size → tag_of q j ≡ tag_of q k
  tag-same j k same = ap (λ i. q.tags + q.tag_stride * i + q.tag_offset) same

  pub slot-turn : (p : Party) (k : ℕ) → (k + gap q p) % q.size ≡ k % q.size
  slot-turn the_sender k = (let z : k + 0 ≡ k = omega arith in ap (λ i. i % q.size) z)
  slot-turn the_receiver k = (let z : k + q.size ≡ k + q.size * 1 = omega arith in ap (λ i. i % q.size) z) ∙ add-mul-mod_self_left k q.size 1

  pub tag-turn : (p : Party) (k : ℕ) → tag_of q (k + gap q p) ≡ tag_of q k
  tag-turn p k = tag-same (k + gap q p) k (slot-turn p k)

  pub element_at-tag : (k : ℕ) → element_at q (tag_of q k) ≡ k % q.size
  element_at-tag k = in_slot q.tag_stride (k % q.size) (tag_of q k - q.tags) (omega arith) (omega (arith, is.some_bytes, is.tag_within))

  pub is_tag-tag : (k : ℕ) → is_tag q (tag_of q k) q.tag_width ≡ true
  is_tag-tag k = grind (arith, element_at-tag, tag-same, mod-mod, eq-eqb)

  pub moved-tag : (p : Party) (n m : ℕ) (w : Write) → IsTagStore q p n w → moved q m w ≡ m + 1
  moved-tag p n m w tag = grind (arith, is_tag-tag)

  pub moved-leaves : (n : ℕ) (w : Write) → LeavesTags q w → moved q n w ≡ n
  moved-leaves n w leaves = by (is_tag q w.addr w.width) refl
    where
      by : (b : Bool) → is_tag q w.addr w.width ≡ b → (if b then n + 1 else n) ≡ n
      by false off = refl
      by true on = let parts = both-equal w.addr (tag_of q (element_at q w.addr)) w.width q.tag_width on in
          let place : w.addr ≡ tag_of q (element_at q w.addr) = parts.0 in
          let width : w.width ≡ q.tag_width = parts.1 in
          let held : covers w w.addr ≡ true = covers-yes w w.addr (omega arith) (omega (arith, width, is.some_bytes)) in
          absurd (let no : true ≡ false = sym held ∙ leaves (element_at q w.addr) w.addr (omega (arith, place), omega (arith, place, is.some_bytes)) in cc)

  pub off-leaves : (w : Write) → KeepsOff q w → LeavesTags q w
  off-leaves w keeps k x at = by (covers w x) refl
    where
      by : (b : Bool) → covers w x ≡ b → b ≡ false
      by false off = refl
      by true on = absurd (tag-inside k x at (keeps x on))

  pub fills-leaves : (p : Party) (c : QueueCounts) (w : Write) → FillsOwned q p c w → LeavesTags q w
  fills-leaves p c w fills k x at = by (covers w x) refl
    where
      by : (b : Bool) → covers w x ≡ b → b ≡ false
      by false off = refl
      by true on = absurd (elim (fills x on) [
        | inl out ↦ tag-inside k x at out
        | inr owns ↦
            let same : tag_of q k ≡ tag_of q owns.position =
            tag-same k owns.position (one-slot k owns.position x (tag-in-slot k owns.position x at owns.byte) owns.byte) in
            owns.no_tag (omega (arith, same, at.0), omega (arith, same, at.1))
      ])

  -- a store to one tag leaves the tags of other slots
  pub tag-apart : (p : Party) (n k : ℕ) (w : Write) → IsTagStore q p n w → n % q.size ≢ k % q.size → (x : ℕ) → IsTagByte q k x → covers w x ≡ false
  tag-apart p n k w tag apart x at = by (covers w x) refl
    where
      by : (b : Bool) → covers w x ≡ b → b ≡ false
      by false off = refl
      by true on = let part = covers-from w x on in
          absurd (apart (one-tag n k x (omega (arith, part.0, tag.place), omega (arith, part.1, tag.place, tag.width)) at))

  -- what a tag holds after a write past it, or of it
  pub tag-left : (w : Write) (f : ℕ → ℕ) (k : ℕ) → ((x : ℕ) → IsTagByte q k x → covers w x ≡ false)
      → joined (λ i. byte_after w (tag_of q k + i) (f (tag_of q k + i))) q.tag_width ≡ joined (λ i. f (tag_of q k + i)) q.tag_width
  tag-left w f k leaves = grind (arith, joined-same)

  pub tag-stored : (w : Write) (f : ℕ → ℕ) (k : ℕ) → w.addr ≡ tag_of q k → w.width ≡ q.tag_width
      → joined (λ i. byte_after w (tag_of q k + i) (f (tag_of q k + i))) q.tag_width ≡ w.value % 256 ^ q.tag_width
  tag-stored w f k place width =
      joined-same (λ i. byte_after w (tag_of q k + i) (f (tag_of q k + i))) (λ i. byte_at i w.value) q.tag_width
      (λ i lt. let held : covers w (tag_of q k + i) ≡ true = covers-yes w (tag_of q k + i) (omega (arith, place)) (omega (arith, place, width, lt)) in
      let turned : tag_of q k + i - w.addr ≡ i = omega (arith, place) in
      ap (λ b. if b then byte_at (tag_of q k + i - w.addr) w.value else f (tag_of q k + i)) held ∙ ap (λ j. byte_at j w.value) turned)
      ∙ joined-bytes w.value q.tag_width
