-- The last position of which the receiver was told that has a byte.
use Rattle.std.proofs.Common.{ℕ, ◌+◌, ◌-◌, ◌*◌, ◌/◌, ◌%◌, ◌<◌, ◌≤◌, ◌≡◌, inl, inr, Bool, true, false, None, Some, refl, ap, ◌∙◌, subst, arith, sym}
use Rattle.std.specs.Prelude.{nat_lt, if◌then◌else◌}
use Rattle.std.proofs.Math.Nat.{mod-lt, mod-le, mod-eq_of_lt, mod-add-div}
use Rattle.std.proofs.lemmas.Bool.{cases_lt, and_parts}
use Rattle.std.proofs.lemmas.Bool.Decides.{Decides-ltb, Decides-and}
use Rattle.std.specs.Bool.{Decides}
use Rattle.std.proofs.lemmas.Nat.{div_below}
use Rattle.queue_parties.specs.{QueueCounts, IsInBytes, slot_from}
use Rattle.queue_parties.proofs.Positions.{ahead, far, slot-within, ahead-mod, ahead-stands, in_slot}
use Rattle.queue_parties.specs.Positions.{IsInBytes, slot_from}
use Rattle.queue_layouts.specs.declared.AnyQueue.{AnyQueue}
use Rattle.queue_layouts.specs.declared.AnyQueue.TheVariants.{Indexed, Tagged}
use Rattle.ownership_runs.specs.{HasSlot, slots_in, position_from, slots_from, slot_width, slot_number, is_record_byte, last_of_slot, Owned, is_in_bytes}
use Rattle.ownership_runs.specs.{position_told, IsRecordByte, is_of_owned}
use Rattle.ownership_runs.proofs.Bytes.{decides-bytes}

-- In which slot a byte is, and the least position from some one on that lies there.

-- a product has room only where its second factor isn't 0
pub second-positive : (size width y : ℕ) → y < size * width → 0 < width
second-positive size width y less = elim (cases_lt 0 width) [
  | inl some ↦ some
  | inr none ↦ (let zero_is : width ≡ 0 = omega (arith, none) in
      let less_none : y < size * 0 = subst (λ (w : ℕ). y < size * w) zero_is less in absurd (omega (arith, less_none)))
]

-- x is a byte of the slot of one of these positions
pub record IsByteOfOwned (slots width size : ℕ) (o : Owned) (x : ℕ) : Type 0 where
  pub position : ℕ
  pub from : o.from ≤ position
  pub before : position < o.end
  pub byte : IsInBytes (slot_from slots width size position) width x

module _ (slots width size : ℕ) (some : 1 ≤ size) where
  pub slot-there : (k x : ℕ) → IsInBytes (slot_from slots width size k) width x → (x - slots) / width ≡ k % size
  slot-there k x at = in_slot width (k % size) (x - slots) (omega (arith, at.0)) (omega (arith, at.0, at.1))

  pub position-there : (n x : ℕ) → IsInBytes slots (size * width) x
      → IsInBytes (slot_from slots width size (n + ahead size n ((x - slots) / width))) width x
  position-there n x at =
      let y : ℕ = x - slots in
      let less : y < size * width = omega (arith, at.0, at.1) in
      let wide : 0 < width = second-positive size width y less in
      let low : y / width < size = div_below y width size wide less in
      let slot : (n + ahead size n (y / width)) % size ≡ y / width = ahead-stands size n (y / width) some ∙ mod-eq_of_lt low in
      let parts : y % width + width * (y / width) ≡ y = mod-add-div y width in
      let rest : y % width < width = mod-lt y wide in
      let is : width * ((n + ahead size n (y / width)) % size) ≡ width * (y / width) = ap (λ i. width * i) slot in
      (omega (arith, is, parts, at.0), omega (arith, is, parts, rest, at.0))

  pub position-least : (n k x : ℕ) → n ≤ k → IsInBytes (slot_from slots width size k) width x → n + ahead size n ((x - slots) / width) ≤ k
  position-least n k x from at =
      let slot : (x - slots) / width ≡ k % size = slot-there k x at in
      let place : n + (k - n) ≡ k = omega (arith, from) in
      let far : ahead size n ((x - slots) / width) ≡ (k - n) % size =
      ap (ahead size n) (slot ∙ sym (ap (λ i. i % size) place)) ∙ ahead-mod size n (k - n) some in
      let low : (k - n) % size ≤ k - n = mod-le (k - n) size in
      omega (arith, far, low, from)

  pub decides-owned : (o : Owned) (x : ℕ) → Decides (is_of_owned slots size width o x) (IsByteOfOwned slots width size o x)
  decides-owned o x = (there, back)
    where
      k : ℕ
      k = position_from size o.from ((x - slots) / width)

      there : is_of_owned slots size width o x ≡ true → IsByteOfOwned slots width size o x
      there ok =
          let parts = and_parts (is_in_bytes slots (size * width) x) (nat_lt k o.end) ok in
          let at : IsInBytes slots (size * width) x = (decides-bytes slots (size * width) x).0 parts.0 in
          record { position = k; from = omega arith; before = (Decides-ltb k o.end).0 parts.1; byte = position-there o.from x at }

      back : IsByteOfOwned slots width size o x → is_of_owned slots size width o x ≡ true
      back owns =
          let low : k ≤ owns.position = position-least o.from owns.position x owns.from owns.byte in
          let less : k < o.end = omega (arith, low, owns.before) in
          (Decides-and _ _ (decides-bytes slots (size * width) x) (Decides-ltb k o.end)).1 (slot-within slots width size some owns.position x owns.byte, less)

-- ---- the last of a slot's positions below a count

module _ (slots width size : ℕ) (some : 1 ≤ size) (known x : ℕ) where
  abbrev IsIn : ℕ → Type 0
  IsIn k = IsInBytes (slot_from slots width size k) width x

  last : ℕ
  last = position_from size (known - size) ((x - slots) / width)

  -- no later one is below it
  last-most : IsInBytes slots (size * width) x → (j : ℕ) → IsIn j → j < known → j ≤ last
  unfolding last
  last-most within j of_j less = elim (cases_lt last j) [
    | inl later ↦
        let next : last + size ≤ j = far slots width size some last j x (position-there slots width size some (known - size) x within) of_j later in
        let from : known - size ≤ last = omega arith in
        absurd (omega (arith, next, from, less))
    | inr none ↦ omega (arith, none)
  ]

  pub last-is : IsInBytes slots (size * width) x → (k : ℕ) → last_of_slot size known ((x - slots) / width) ≡ Some k
      → IsIn k × (k < known) × ((j : ℕ) → IsIn j → j < known → j ≤ k)
  unfolding last
  last-is within k is = by (nat_lt last known) refl is
    where
      by : (b : Bool) → nat_lt last known ≡ b → (if b then Some last else None) ≡ Some k → IsIn k × (k < known) × ((j : ℕ) → IsIn j → j < known → j ≤ k)
      by true less same =
          let at : last ≡ k = cc in (
            subst IsIn at (position-there slots width size some (known - size) x within),
            subst (λ (n : ℕ). n < known) at ((Decides-ltb last known).0 less),
            λ j of_j below. subst (λ (n : ℕ). j ≤ n) at (last-most within j of_j below),
          )
      by false out none = cc

  pub is-last : (k : ℕ) → IsIn k → k < known → ((j : ℕ) → IsIn j → j < known → j ≤ k) → last_of_slot size known ((x - slots) / width) ≡ Some k
  unfolding last
  is-last k of_k less most =
      let within : IsInBytes slots (size * width) x = slot-within slots width size some k x of_k in
      let low : ahead size (known - size) ((x - slots) / width) < size = mod-lt ((x - slots) / width + (size - (known - size) % size)) (omega (arith, some)) in
      let far_on : k ≤ last = last-most within k of_k less in
      let below : last < known = elim (cases_lt k (known - size)) [
        | inl early ↦ omega (arith, low, early)
        | inr late ↦
            let least : last ≤ k = position-least slots width size some (known - size) k x (omega (arith, late)) of_k in
            omega (arith, least, less)
      ] in
      let back : last ≤ k = most last (position-there slots width size some (known - size) x within) below in
      let same : last ≡ k = omega (arith, far_on, back) in
      ap (λ b. if b then Some last else None) ((Decides-ltb last known).1 below) ∙ ap (λ (n : ℕ). Some n) same

-- ---- the bytes of records

-- x is a byte of the slot of position k
abbrev pub IsOfSlot : AnyQueue → (k x : ℕ) → Type 0
IsOfSlot q k x = IsInBytes (slot_from (slots_from q) (slot_width q) (slots_in q) k) (slot_width q) x

pub of-slot : (q : AnyQueue) (k x : ℕ) → IsRecordByte q k x → IsOfSlot q k x
of-slot (Indexed q) k x at = at
of-slot (Tagged q) k x at = at

pub in-slots : (q : AnyQueue) (x : ℕ) → is_record_byte q x ≡ true → IsInBytes (slots_from q) (slots_in q * slot_width q) x
in-slots q x is = (decides-bytes (slots_from q) (slots_in q * slot_width q) x).0 is

to-record : (q : AnyQueue) (k x : ℕ) → IsOfSlot q k x → IsRecordByte q k x
to-record (Indexed q) k x at = at
to-record (Tagged q) k x at = at

pub has-slot : (q : AnyQueue) → HasSlot q → 1 ≤ slots_in q
has-slot (Indexed q) some = some
has-slot (Tagged q) some = some

pub is-record : (q : AnyQueue) → HasSlot q → (k x : ℕ) → IsRecordByte q k x → is_record_byte q x ≡ true
is-record q some k x at = (decides-bytes (slots_from q) (slots_in q * slot_width q) x).1
    (slot-within (slots_from q) (slot_width q) (slots_in q) (has-slot q some) k x (of-slot q k x at))

pub slot-has : (q : AnyQueue) → 1 ≤ slots_in q → HasSlot q
slot-has (Indexed q) some = some
slot-has (Tagged q) some = some

-- ---- the last position of which the receiver was told

module _ (q : AnyQueue) (some : HasSlot q) (c : QueueCounts) (x : ℕ) where
  pub record IsLastTold (k : ℕ) : Type 0 where
    pub of_record : IsRecordByte q k x
    pub told : k < c.known_published
    pub last : (j : ℕ) → IsRecordByte q j x → j < c.known_published → j ≤ k

  pub last-told : (k : ℕ) → position_told q c x ≡ Some k → IsLastTold k
  last-told k is = by (is_record_byte q x) refl is
    where
      by : (b : Bool) → is_record_byte q x ≡ b → (if b then last_of_slot (slots_in q) c.known_published (slot_number q x) else None) ≡ Some k → IsLastTold k
      by true ok found =
          let is_last = last-is (slots_from q) (slot_width q) (slots_in q) (has-slot q some) c.known_published x (in-slots q x ok) k found in
          record {
            of_record = to-record q k x is_last.0;
            told = is_last.1;
            last = λ j at below. is_last.2 j (of-slot q j x at) below;
          }
      by false off none = cc

  pub told-last : (k : ℕ) → IsLastTold k → position_told q c x ≡ Some k
  told-last k is =
      let ok : is_record_byte q x ≡ true = is-record q some k x is.of_record in
      ap (λ b. if b then last_of_slot (slots_in q) c.known_published (slot_number q x) else None) ok
      ∙ is-last (slots_from q) (slot_width q) (slots_in q) (has-slot q some) c.known_published x k (of-slot q k x is.of_record) is.told
      (λ j at below. is.last j (to-record q j x at) below)
