-- A byte that is of no shared region is one to which of two harts the one never stores, or which the other never touches.
use Rattle.std.proofs.Common.{ℕ, zero, suc, ◌+◌, ◌<◌, ◌≤◌, ◌≡◌, ◌⊎◌, inl, inr, if◌then◌else◌, Bool, true, false, Option, ◌-◌, ◌%◌, ◌^◌, ◌&&◌}
use Rattle.std.proofs.Common.{Some, None, List, [], ◌∷◌, ◌++◌, length, refl, subst, arith}
use Rattle.std.specs.Prelude.{nat_le, nat_lt, option_map}
use Rattle.std.proofs.lemmas.Bool.{cases_lt, leb-true, leb-false, ltb-true, ltb-false, and_parts}
use Rattle.std.proofs.Math.Nat.{pow-le-pow_right}
use Rattle.rv_decode.specs.declared.instruction.Instr.{Instr}
use Rattle.rv_decode.specs.declared.instruction.Instr.TheVariants.{Load, Store, Amo}
use Rattle.step_machine.specs.History.{OpeningValue}
use Rattle.queue_certificates.specs.Certificates.{QueueCertificate}
use Rattle.queue_certificates.specs.{Bounds, bounds_of, most_of_sum, risings, fallings, bounds_between, KnownValue, any, linear, index_for, signed_for, ends_as}
use Rattle.queue_certificates.specs.{has_bits, KnownState, bounds, bounds_by, is_nothing, anywhere, instruction_at, address_value, operand, QueueCertificate}
use Rattle.queue_certificates.specs.{queue_at}
use Rattle.queue_checker.specs.Flaws.{first_below, first_of, hart_at}
use Rattle.queue_checker.specs.declared.targets.Target.{Target}
use Rattle.hart_safety.specs.declared.regions.Region.{Region}
use Rattle.hart_safety.specs.declared.shared.Place.{Place}
use Rattle.hart_safety.specs.Regions.{ends_before, joined_region, AreInOrderFrom, IsInNone, region_of, with_region}
use Rattle.hart_safety.specs.Shared.{all_joined, common, common_of, common_region, common_with, either_of, joined_from}
use Rattle.hart_safety.specs.Shared.{merged, merged_with, shares_below, shared_of, Shares, unbounded_by, unbounded_of, with_hart}
use Rattle.hart_safety.specs.Touched.{Touched, touched_of, is_bounded, nothing_touched, target_of, touched_at, with_target}
use Rattle.hart_safety.proofs.AtLeaves.{keeps-over}

-- A byte of no region is of none of those that were put into them.

abbrev pub IsOutside : (x : ℕ) → Region → Type 0
IsOutside x r = (x < r.from) ⊎ (r.to < x)

pub outside-parts : (x : ℕ) (r s : Region) → IsOutside x (joined_region r s) → IsOutside x r × IsOutside x s
outside-parts x r s (inl before) = by (nat_le r.from s.from) refl before
  where
    by : (t : Bool) → nat_le r.from s.from ≡ t → x < (if t then r.from else s.from) → IsOutside x r × IsOutside x s
    by true le before = let low : r.from ≤ s.from = leb-true r.from s.from le in (inl before, inl (omega (arith, low, before)))
    by false gt before = let low : s.from < r.from = leb-false r.from s.from gt in (inl (omega (arith, low, before)), inl before)
outside-parts x r s (inr after) = by (nat_le r.to s.to) refl after
  where
    by : (t : Bool) → nat_le r.to s.to ≡ t → (if t then s.to else r.to) < x → IsOutside x r × IsOutside x s
    by true le after = let high : r.to ≤ s.to = leb-true r.to s.to le in (inr (omega (arith, high, after)), inr after)
    by false gt after = let high : s.to < r.to = leb-false r.to s.to gt in (inr after, inr (omega (arith, high, after)))

outside-with : (x : ℕ) (r : Region) (rs : List Region) → IsInNone x (with_region r rs) → IsOutside x r × IsInNone x rs
outside-with x r [] out = out
outside-with x r (s ∷ ss) out = by (ends_before r s) (ends_before s r) out (outside-with x r ss) (outside-with x (joined_region r s) ss)
  where
    by : (t u : Bool) → IsInNone x (if t then r ∷ s ∷ ss else (if u then s ∷ with_region r ss else with_region (joined_region r s) ss))
        → (IsInNone x (with_region r ss) → IsOutside x r × IsInNone x ss)
        → (IsInNone x (with_region (joined_region r s) ss) → IsOutside x (joined_region r s) × IsInNone x ss) → IsOutside x r × IsInNone x (s ∷ ss)
    by true u out apart together = out
    by false true out apart together = let rest = apart out.1 in (rest.0, (out.0, rest.1))
    by false false out apart together = let rest = together out in let parts = outside-parts x r s rest.0 in (parts.0, (parts.1, rest.1))

-- an instruction that touches these bytes touches another one
abbrev pub IsSpared : (x : ℕ) → Option Target → Type 0
IsSpared x None = Unit {0}
IsSpared x (Some t) = (is_bounded t.bounds ≡ true) × IsOutside x (region_of t)

-- all accesses are bounded, and the byte at x is of no region
abbrev pub Spares : (x : ℕ) → Touched → Type 0
Spares x w = (w.unbounded ≡ None) × IsInNone x w.regions

outside-target : (x n : ℕ) (t : Option Target) (w : Touched) → Spares x (with_target n t w) → IsSpared x t × Spares x w
outside-target x n None w out = (tt, out)
outside-target x n (Some t) w out = by (is_bounded t.bounds) refl out
  where
    none : (a : Option ℕ) → first_of a (Some n) ≡ None → ⊥
    none None is = absurd (cc)
    none (Some a) is = absurd (cc)

    by : (b : Bool) → is_bounded t.bounds ≡ b
        → Spares x (if b then record { regions = with_region (region_of t) w.regions; unbounded = w.unbounded }
        else record { regions = w.regions; unbounded = first_of w.unbounded (Some n) }) → IsSpared x (Some t) × Spares x w
    by true is out = let rest = outside-with x (region_of t) w.regions out.1 in ((is, rest.0), (out.0, rest.1))
    by false is out = absurd (none w.unbounded out.0)

pub spared : (stores : Bool) (c : QueueCertificate) (code : List ℕ) (x n : ℕ) (k : KnownState) (w : Touched) → Spares x (touched_at stores c code n k w)
    → IsSpared x (target_of stores c k (instruction_at code k.pc)) × Spares x w
spared stores c code x n k w out = outside-target x n (target_of stores c k (instruction_at code k.pc)) w out

-- Regions stay in their order, with a byte between each and the next.

-- ---- a region has a byte

bounds-order : (rs : List (Option ℕ)) (v : KnownValue) (b : Bounds) → bounds rs v ≡ Some b → b.low ≤ b.high
bounds-order rs any b is = absurd (cc)
bounds-order rs (index_for i f) b is = absurd (cc)
bounds-order rs (signed_for i f) b is = absurd (cc)
bounds-order rs (has_bits m c) b is = absurd (cc)
bounds-order rs (ends_as n f) b is = by (nat_le 1 n && nat_le n 32) refl is
  where
    made : 1 ≤ n → (o : Option Bool) → bounds_by n o ≡ Some b → b.low ≤ b.high
    made some None is = absurd (cc)
    made some (Some true) is = subst (λ (d : Bounds). d.low ≤ d.high) (let e : record { low = 0; high = 0 } ≡ b = cc in e) (omega arith)
    made some (Some false) is = subst (λ (d : Bounds). d.low ≤ d.high) (let e : record { low = 1; high = 2 ^ n - 1 } ≡ b = cc in e)
        (let two : 2 ^ 1 ≤ 2 ^ n = pow-le-pow_right {n = 2} (omega arith) {i = 1} {j = n} some in omega (arith, two))

    by : (t : Bool) → (nat_le 1 n && nat_le n 32) ≡ t → (if t then bounds_by n (is_nothing (bounds_of (2 ^ n) rs f)) else None) ≡ Some b → b.low ≤ b.high
    by false part is = absurd (cc)
    by true ok is = made (leb-true 1 n (and_parts (nat_le 1 n) (nat_le n 32) ok).0) (is_nothing (bounds_of (2 ^ n) rs f)) is
bounds-order rs (linear f) b is = by (f.constant % 2 ^ 32) (most_of_sum rs (risings (2 ^ 32) f.factors)) (most_of_sum rs (fallings (2 ^ 32) f.factors)) is
  where
    made : (c up down : ℕ) (t : Bool) → (if t then Some (record { low = c - down; high = c + up }) else None) ≡ Some b → b.low ≤ b.high
    made c up down false is = absurd (cc)
    made c up down true is = subst (λ (d : Bounds). d.low ≤ d.high) (let e : record { low = c - down; high = c + up } ≡ b = cc in e) (omega arith)

    by : (c : ℕ) (up down : Option ℕ) → bounds_between (2 ^ 32) c up down ≡ Some b → b.low ≤ b.high
    by c None down is = absurd (cc)
    by c (Some up) None is = absurd (cc)
    by c (Some up) (Some down) is = made c up down (nat_le down c && nat_le (c + up + 1) (2 ^ 32)) is

anywhere-order : (rs : List (Option ℕ)) (v : KnownValue) → (anywhere (bounds rs v)).low ≤ (anywhere (bounds rs v)).high
anywhere-order rs v = by (bounds rs v) refl
  where
    by : (b : Option Bounds) → bounds rs v ≡ b → (anywhere b).low ≤ (anywhere b).high
    by None is = omega arith
    by (Some b) is = bounds-order rs v b is

abbrev HasByte : Option Target → Type 0
HasByte None = Unit {0}
HasByte (Some t) = t.bounds.low ≤ t.bounds.high

touched-has : (stores : Bool) (c : QueueCertificate) (k : KnownState) (i : Option Instr) → HasByte (target_of stores c k i)
touched-has true c k (Some (Store op rs1 rs2 offset)) = anywhere-order k.ranges (address_value (queue_at c) k rs1 offset)
touched-has false c k (Some (Load op rd rs1 offset)) = anywhere-order k.ranges (address_value (queue_at c) k rs1 offset)
touched-has true c k (Some (Amo op rd rs1 rs2 aq rl)) = anywhere-order k.ranges (operand (queue_at c) k rs1)
touched-has false c k (Some (Amo op rd rs1 rs2 aq rl)) = anywhere-order k.ranges (operand (queue_at c) k rs1)
touched-has true c k other = tt
touched-has false c k other = tt

-- ---- one more

pub earlier : (n m : ℕ) (rs : List Region) → n ≤ m → AreInOrderFrom m rs → AreInOrderFrom n rs
earlier n m [] le order = tt
earlier n m (r ∷ rs) le order = (let low : m ≤ r.from = order.0 in omega (arith, le, low), order.1, order.2)

pub joined-order : (n : ℕ) (r s : Region) → n ≤ r.from → r.from ≤ r.to → n ≤ s.from → s.from ≤ s.to
    → (n ≤ (joined_region r s).from) × ((joined_region r s).from ≤ (joined_region r s).to)
joined-order n r s low has low-s has-s = by (nat_le r.from s.from) (nat_le r.to s.to) refl refl
  where
    by : (t u : Bool) → nat_le r.from s.from ≡ t → nat_le r.to s.to ≡ u
        → (n ≤ (if t then r.from else s.from)) × ((if t then r.from else s.from) ≤ (if u then s.to else r.to))
    by true true first last = (low, let le : r.to ≤ s.to = leb-true r.to s.to last in omega (arith, has, le))
    by true false first last = (low, has)
    by false true first last = (low-s, has-s)
    by false false first last = (low-s, let gt : s.from < r.from = leb-false r.from s.from first in omega (arith, gt, has))

with-order : (n : ℕ) (r : Region) (rs : List Region) → n ≤ r.from → r.from ≤ r.to → AreInOrderFrom n rs → AreInOrderFrom n (with_region r rs)
with-order n r [] low has order = (low, has, tt)
with-order n r (s ∷ ss) low has order = by (ends_before r s) (ends_before s r) refl refl
    (λ after. with-order (s.to + 2) r ss after has order.2)
    (let both = joined-order n r s low has order.0 order.1 in
    with-order n (joined_region r s) ss both.0 both.1
    (earlier n (s.to + 2) ss (let s-low : n ≤ s.from = order.0 in let s-has : s.from ≤ s.to = order.1 in omega (arith, s-low, s-has)) order.2))
  where
    by : (t u : Bool) → ends_before r s ≡ t → ends_before s r ≡ u → (s.to + 2 ≤ r.from → AreInOrderFrom (s.to + 2) (with_region r ss))
        → AreInOrderFrom n (with_region (joined_region r s) ss)
        → AreInOrderFrom n (if t then r ∷ s ∷ ss else (if u then s ∷ with_region r ss else with_region (joined_region r s) ss))
    by true u first second apart together =
        let far : r.to + 1 < s.from = ltb-true (r.to + 1) s.from first in (low, has, (omega (arith, far), order.1, order.2))
    by false true first second apart together =
        let far : s.to + 1 < r.from = ltb-true (s.to + 1) r.from second in (order.0, order.1, apart (omega (arith, far)))
    by false false first second apart together = together

abbrev IsInOrder : Touched → Type 0
IsInOrder w = AreInOrderFrom 0 w.regions

target-order : (n : ℕ) (t : Option Target) (w : Touched) → HasByte t → IsInOrder w → IsInOrder (with_target n t w)
target-order n None w has order = order
target-order n (Some t) w has order = by (is_bounded t.bounds)
  where
    by : (b : Bool) → IsInOrder (if b then record { regions = with_region (region_of t) w.regions; unbounded = w.unbounded }
        else record { regions = w.regions; unbounded = first_of w.unbounded (Some n) })
    by true = with-order 0 (region_of t) w.regions (omega arith) (omega (arith, has)) order
    by false = order

pub regions_in_order : (stores : Bool) (o : OpeningValue) (c : QueueCertificate) (h : ℕ) → AreInOrderFrom 0 (touched_of stores o c h).regions
regions_in_order stores o c h = keeps-over (touched_at stores c (hart_at o h).code) IsInOrder
    (λ n k w order. target-order n (target_of stores c k (instruction_at (hart_at o h).code k.pc)) w
    (touched-has stores c k (instruction_at (hart_at o h).code k.pc)) order)
    c h nothing_touched tt

-- ---- regions by where they begin

abbrev AreSortedFrom : (n : ℕ) → List Region → Type 0
AreSortedFrom n [] = Unit {0}
AreSortedFrom n (r ∷ rs) = (n ≤ r.from) × (r.from ≤ r.to) × AreSortedFrom r.from rs

sorted-earlier : (n m : ℕ) (rs : List Region) → n ≤ m → AreSortedFrom m rs → AreSortedFrom n rs
sorted-earlier n m [] le sorted = tt
sorted-earlier n m (r ∷ rs) le sorted = (let low : m ≤ r.from = sorted.0 in omega (arith, le, low), sorted.1, sorted.2)

sorted : (n : ℕ) (rs : List Region) → AreInOrderFrom n rs → AreSortedFrom n rs
sorted n [] order = tt
sorted n (r ∷ rs) order = (
  order.0,
  order.1,
  sorted-earlier r.from (r.to + 2) rs (let has : r.from ≤ r.to = order.1 in omega (arith, has)) (sorted (r.to + 2) rs order.2),
)

module _ (r : Region) (rs : List Region) (rest : List Region → List Region)
    (rest-sorted : (n : ℕ) (ss : List Region) → AreSortedFrom n rs → AreSortedFrom n ss → AreSortedFrom n (rest ss)) where
  with-sorted : (n : ℕ) (ss : List Region) → AreSortedFrom n (r ∷ rs) → AreSortedFrom n ss → AreSortedFrom n (merged_with r rs rest ss)
  with-sorted n [] of-rs of-ss = of-rs
  with-sorted n (s ∷ ss) of-rs of-ss = by (nat_le r.from s.from) refl (λ low. with-sorted s.from ss (low, of-rs.1, of-rs.2) of-ss.2)
    where
      by : (t : Bool) → nat_le r.from s.from ≡ t → (s.from ≤ r.from → AreSortedFrom s.from (merged_with r rs rest ss))
          → AreSortedFrom n (if t then r ∷ rest (s ∷ ss) else s ∷ merged_with r rs rest ss)
      by true is more = (of-rs.0, of-rs.1, rest-sorted r.from (s ∷ ss) of-rs.2 (leb-true r.from s.from is, of-ss.1, of-ss.2))
      by false is more = (of-ss.0, of-ss.1, more (let gt : s.from < r.from = leb-false r.from s.from is in omega (arith, gt)))

merged-sorted : (n : ℕ) (rs ss : List Region) → AreSortedFrom n rs → AreSortedFrom n ss → AreSortedFrom n (merged rs ss)
merged-sorted n [] ss of-rs of-ss = of-ss
merged-sorted n (r ∷ rs) ss of-rs of-ss = with-sorted r rs (merged rs) (λ m ts. merged-sorted m rs ts) n ss of-rs of-ss

joined-first : (r s : Region) → (joined_region r s).from ≤ s.from
joined-first r s = at (nat_le r.from s.from) refl
  where
    at : (t : Bool) → nat_le r.from s.from ≡ t → (if t then r.from else s.from) ≤ s.from
    at true le = leb-true r.from s.from le
    at false gt = omega arith

joined-in-order : (n : ℕ) (r : Region) (ss : List Region) → n ≤ r.from → r.from ≤ r.to → AreSortedFrom r.from ss → AreInOrderFrom n (joined_from r ss)
joined-in-order n r [] low has sorted = (low, has, tt)
joined-in-order n r (s ∷ ss) low has sorted =
    let both = joined-order r.from r s (omega arith) has sorted.0 sorted.1 in
    by (ends_before r s) refl (λ far. joined-in-order (r.to + 2) s ss far sorted.1 sorted.2)
    (joined-in-order n (joined_region r s) ss (let from : r.from ≤ (joined_region r s).from = both.0 in omega (arith, low, from)) both.1
    (sorted-earlier (joined_region r s).from s.from ss (joined-first r s) sorted.2))
  where
    by : (t : Bool) → ends_before r s ≡ t → (r.to + 2 ≤ s.from → AreInOrderFrom (r.to + 2) (joined_from s ss))
        → AreInOrderFrom n (joined_from (joined_region r s) ss) → AreInOrderFrom n (if t then r ∷ joined_from s ss else joined_from (joined_region r s) ss)
    by true is apart together = (low, has, apart (let far : r.to + 1 < s.from = ltb-true (r.to + 1) s.from is in omega (arith, far)))
    by false is apart together = together

all-in-order : (rs : List Region) → AreSortedFrom 0 rs → AreInOrderFrom 0 (all_joined rs)
all-in-order [] sorted = tt
all-in-order (r ∷ rs) sorted = joined-in-order 0 r rs (omega arith) sorted.1 sorted.2

either-in-order : (rs ss : List Region) → AreInOrderFrom 0 rs → AreInOrderFrom 0 ss → AreInOrderFrom 0 (either_of rs ss)
either-in-order rs ss of-rs of-ss = all-in-order (merged rs ss) (merged-sorted 0 rs ss (sorted 0 rs of-rs) (sorted 0 ss of-ss))

-- ---- bytes of none

module _ (x : ℕ) where
  module _ (r : Region) (rs : List Region) (rest : List Region → List Region)
      (rest-none : (ss : List Region) → IsInNone x (rest ss) → IsInNone x rs × IsInNone x ss)
    where
      none-with : (ss : List Region) → IsInNone x (merged_with r rs rest ss) → IsInNone x (r ∷ rs) × IsInNone x ss
      none-with [] none = (none, tt)
      none-with (s ∷ ss) none = by (nat_le r.from s.from) none (none-with ss)
        where
          by : (t : Bool) → IsInNone x (if t then r ∷ rest (s ∷ ss) else s ∷ merged_with r rs rest ss)
              → (IsInNone x (merged_with r rs rest ss) → IsInNone x (r ∷ rs) × IsInNone x ss) → IsInNone x (r ∷ rs) × IsInNone x (s ∷ ss)
          by true none more = let left = rest-none (s ∷ ss) none.1 in ((none.0, left.0), left.1)
          by false none more = let left = more none.1 in (left.0, (none.0, left.1))

  none-merged : (rs ss : List Region) → IsInNone x (merged rs ss) → IsInNone x rs × IsInNone x ss
  none-merged [] ss none = (tt, none)
  none-merged (r ∷ rs) ss none = none-with r rs (merged rs) (none-merged rs) ss none

  none-joined : (r : Region) (ss : List Region) → IsInNone x (joined_from r ss) → IsOutside x r × IsInNone x ss
  none-joined r [] none = none
  none-joined r (s ∷ ss) none = by (ends_before r s) none (none-joined s ss) (none-joined (joined_region r s) ss)
    where
      by : (t : Bool) → IsInNone x (if t then r ∷ joined_from s ss else joined_from (joined_region r s) ss)
          → (IsInNone x (joined_from s ss) → IsOutside x s × IsInNone x ss)
          → (IsInNone x (joined_from (joined_region r s) ss) → IsOutside x (joined_region r s) × IsInNone x ss) → IsOutside x r × IsInNone x (s ∷ ss)
      by true none apart together = (none.0, apart none.1)
      by false none apart together = let left = together none in let parts = outside-parts x r s left.0 in (parts.0, (parts.1, left.1))

  none-all : (rs : List Region) → IsInNone x (all_joined rs) → IsInNone x rs
  none-all [] none = tt
  none-all (r ∷ rs) none = none-joined r rs none

  none-either : (rs ss : List Region) → IsInNone x (either_of rs ss) → IsInNone x rs × IsInNone x ss
  none-either rs ss none = none-merged rs ss (none-all (merged rs ss) none)

  -- what comes after a byte doesn't have it
  none-after : (n : ℕ) (rs : List Region) → x < n → AreInOrderFrom n rs → IsInNone x rs
  none-after n [] less order = tt
  none-after n (r ∷ rs) less order =
      let low : n ≤ r.from = order.0 in
      let has : r.from ≤ r.to = order.1 in
      (inl (omega (arith, less, low)), none-after (r.to + 2) rs (omega (arith, less, low, has)) order.2)

  is-outside : (r : Region) → IsOutside x r ⊎ ((r.from ≤ x) × (x ≤ r.to))
  is-outside r = elim (cases_lt x r.from) [
    | inl before ↦ inl (inl before)
    | inr from ↦ (elim (cases_lt r.to x) [ inl after ↦ inl (inr after) | inr within ↦ inr (from, within) ])
  ]

  none-of-both : (r s : Region) (rest : List Region) → IsInNone x (common_of r s ++ rest) → (IsOutside x r ⊎ IsOutside x s) × IsInNone x rest
  none-of-both r s rest none = by (nat_le (common_region r s).from (common_region r s).to) refl none
    where
      apart : IsOutside x (common_region r s) → IsOutside x r ⊎ IsOutside x s
      apart out = elim (is-outside r) [
        | inl out-r ↦ inl out-r
        | inr in-r ↦ (elim (is-outside s) [ inl out-s ↦ inr out-s | inr in-s ↦ absurd (neither (nat_le r.from s.from) (nat_le r.to s.to) in-r in-s out) ])
      ]
        where
          neither : (t u : Bool) → (r.from ≤ x) × (x ≤ r.to) → (s.from ≤ x) × (x ≤ s.to)
              → (x < (if t then s.from else r.from)) ⊎ ((if u then r.to else s.to) < x) → ⊥
          neither true u in-r in-s (inl before) = omega (arith, before, in-s.0)
          neither false u in-r in-s (inl before) = omega (arith, before, in-r.0)
          neither t true in-r in-s (inr after) = omega (arith, after, in-r.1)
          neither t false in-r in-s (inr after) = omega (arith, after, in-s.1)

      empty : nat_le (common_region r s).from (common_region r s).to ≡ false → IsOutside x (common_region r s)
      empty is = let gap : (common_region r s).to < (common_region r s).from = leb-false (common_region r s).from (common_region r s).to is in
          elim (cases_lt x (common_region r s).from) [ inl before ↦ inl before | inr from ↦ inr (omega (arith, gap, from)) ]

      by : (t : Bool) → nat_le (common_region r s).from (common_region r s).to ≡ t → IsInNone x ((if t then common_region r s ∷ [] else []) ++ rest)
          → (IsOutside x r ⊎ IsOutside x s) × IsInNone x rest
      by true is none = (apart none.0, none.1)
      by false is none = (apart (empty is), none)

  not-in : (q : Region) → (q.from ≤ x) × (x ≤ q.to) → IsOutside x q → ⊥
  not-in q inside (inl before) = omega (arith, before, inside.0)
  not-in q inside (inr after) = omega (arith, after, inside.1)

  -- of two the one that ends first meets nothing that comes after the other
  none-left : (r s : Region) (ss : List Region) → r.to ≤ s.to → AreInOrderFrom (s.to + 2) ss → (q : IsOutside x r ⊎ IsOutside x s) → {P : Type 0}
      → (IsOutside x r → P) → (IsInNone x (s ∷ ss) → P) → P
  none-left r s ss le order out by-r by-s = elim (is-outside r) [
    | inl out-r ↦ by-r out-r
    | inr in-r ↦ (elim out [
      | inl out-r ↦ absurd (not-in r in-r out-r)
      | inr out-s ↦ by-s (out-s, none-after (s.to + 2) ss (let last : x ≤ r.to = in-r.1 in omega (arith, le, last)) order)
    ])
  ]

  module _ (r : Region) (rs : List Region) (rest : List Region → List Region) (order : AreInOrderFrom (r.to + 2) rs)
      (rest-none : (m : ℕ) (ss : List Region) → AreInOrderFrom m ss → IsInNone x (rest ss) → IsInNone x rs ⊎ IsInNone x ss) where
    with-none : (m : ℕ) (ss : List Region) → AreInOrderFrom m ss → IsInNone x (common_with r rest ss) → IsInNone x (r ∷ rs) ⊎ IsInNone x ss
    with-none m [] of-ss none = inr tt
    with-none m (s ∷ ss) of-ss none =
        let parts = none-of-both r s (if nat_lt s.to r.to then common_with r rest ss else rest (s ∷ ss)) none in
        by (nat_lt s.to r.to) refl parts.0 parts.1 (with-none (s.to + 2) ss of-ss.2)
      where
        turned : IsOutside x r ⊎ IsOutside x s → IsOutside x s ⊎ IsOutside x r
        turned (inl out) = inr out
        turned (inr out) = inl out

        by : (t : Bool) → nat_lt s.to r.to ≡ t → IsOutside x r ⊎ IsOutside x s → IsInNone x (if t then common_with r rest ss else rest (s ∷ ss))
            → (IsInNone x (common_with r rest ss) → IsInNone x (r ∷ rs) ⊎ IsInNone x ss) → IsInNone x (r ∷ rs) ⊎ IsInNone x (s ∷ ss)
        by true is out none more = elim (more none) [
          | inl none-r ↦ inl none-r
          | inr none-s ↦ none-left s r rs (let less : s.to < r.to = ltb-true s.to r.to is in omega (arith, less)) order (turned out)
              (λ out-s. inr (out-s, none-s)) (λ none-r. inl none-r)
        ]
        by false is out none more = elim (rest-none m (s ∷ ss) of-ss none) [
          | inr none-s ↦ inr none-s
          | inl none-r ↦ none-left r s ss (ltb-false s.to r.to is) of-ss.2 out (λ out-r. inl (out-r, none-r)) (λ none-s. inr none-s)
        ]

  none-common : (n m : ℕ) (rs ss : List Region) → AreInOrderFrom n rs → AreInOrderFrom m ss → IsInNone x (common rs ss) → IsInNone x rs ⊎ IsInNone x ss
  none-common n m [] ss of-rs of-ss none = inl tt
  none-common n m (r ∷ rs) ss of-rs of-ss none =
      with-none r rs (common rs) of-rs.2 (λ k ts order. none-common (r.to + 2) k rs ts of-rs.2 order) m ss of-ss none

-- ---- harts

module _ (o : OpeningValue) (c : QueueCertificate) where
  abbrev stores : (h : ℕ) → List Region
  stores h = (touched_of true o c h).regions

  abbrev loads : (h : ℕ) → List Region
  loads h = (touched_of false o c h).regions

  touches-in-order : (h : ℕ) → AreInOrderFrom 0 (either_of (stores h) (loads h))
  touches-in-order h = either-in-order (stores h) (loads h) (regions_in_order true o c h) (regions_in_order false o c h)

  stored-in-order : (n : ℕ) → AreInOrderFrom 0 (shares_below o c n).stored
  stored-in-order zero = tt
  stored-in-order (suc h) = either-in-order (shares_below o c h).stored (stores h) (stored-in-order h) (regions_in_order true o c h)

  touched-in-order : (n : ℕ) → AreInOrderFrom 0 (shares_below o c n).touched
  touched-in-order zero = tt
  touched-in-order (suc h) = either-in-order (shares_below o c h).touched (either_of (stores h) (loads h)) (touched-in-order h) (touches-in-order h)

  module _ (x : ℕ) where
    -- of hart h alone: it doesn't touch the byte
    abbrev IsUntouched : (stores : Bool) → (h : ℕ) → Type 0
    IsUntouched t h = IsInNone x (touched_of t o c h).regions

    either-none : (t : Bool) (h : ℕ) → IsInNone x (either_of (stores h) (loads h)) → IsUntouched t h
    either-none true h none = (none-either x (stores h) (loads h) none).0
    either-none false h none = (none-either x (stores h) (loads h) none).1

    unstored : (n h : ℕ) → h < n → IsInNone x (shares_below o c n).stored → IsUntouched true h
    unstored zero h less none = absurd (omega (arith, less))
    unstored (suc n) h less none = let parts = none-either x (shares_below o c n).stored (stores n) none in
        elim (cases_lt h n) [
          | inl under ↦ unstored n h under parts.0
          | inr at ↦ (let same : n ≡ h = omega (arith, less, at) in subst (IsUntouched true) same parts.1)
        ]

    untouched : (t : Bool) (n h : ℕ) → h < n → IsInNone x (shares_below o c n).touched → IsUntouched t h
    untouched t zero h less none = absurd (omega (arith, less))
    untouched t (suc n) h less none = let parts = none-either x (shares_below o c n).touched (either_of (stores n) (loads n)) none in
        elim (cases_lt h n) [
          | inl under ↦ untouched t n h under parts.0
          | inr at ↦ (let same : n ≡ h = omega (arith, less, at) in subst (IsUntouched t) same (either-none t n parts.1))
        ]

    unshared : (t : Bool) (n h j : ℕ) → h < n → j < n → (h ≡ j → ⊥) → IsInNone x (shares_below o c n).shared → IsUntouched true h ⊎ IsUntouched t j
    unshared t zero h j less-h less-j other none = absurd (omega (arith, less-h))
    unshared t (suc n) h j less-h less-j other none = elim (cases_lt h n) [
      | inl under-h ↦ (elim (cases_lt j n) [
        | inl under-j ↦ unshared t n h j under-h under-j other parts.0
        | inr at-j ↦ (let same : n ≡ j = omega (arith, less-j, at-j) in elim by-others [
          | inl none ↦ inr (subst (IsUntouched t) same (either-none t n none))
          | inr none ↦ inl (unstored n h under-h none)
        ])
      ])
      | inr at-h ↦ (elim (cases_lt j n) [
        | inl under-j ↦ (let same : n ≡ h = omega (arith, less-h, at-h) in elim by-stores [
          | inl none ↦ inl (subst (IsUntouched true) same none)
          | inr none ↦ inr (untouched t n j under-j none)
        ])
        | inr at-j ↦ absurd (other (omega (arith, less-h, at-h, less-j, at-j)))
      ])
    ]
      where
        before : Shares
        before = shares_below o c n

        touches : List Region
        touches = either_of (stores n) (loads n)

        parts : IsInNone x before.shared × IsInNone x (either_of (common (stores n) before.touched) (common touches before.stored))
        parts = none-either x before.shared (either_of (common (stores n) before.touched) (common touches before.stored)) none

        more : IsInNone x (common (stores n) before.touched) × IsInNone x (common touches before.stored)
        more = none-either x (common (stores n) before.touched) (common touches before.stored) parts.1

        by-stores : IsUntouched true n ⊎ IsInNone x before.touched
        by-stores = none-common x 0 0 (stores n) before.touched (regions_in_order true o c n) (touched-in-order n) more.0

        by-others : IsInNone x touches ⊎ IsInNone x before.stored
        by-others = none-common x 0 0 touches before.stored (touches-in-order n) (stored-in-order n) more.1

  -- ---- accesses that may go anywhere

  none-first : {A : Type 0} (a b : Option A) → first_of a b ≡ None → (a ≡ None) × (b ≡ None)
  none-first None b none = (refl, none)
  none-first (Some x) b none = absurd (cc)

  none-below : (n h : ℕ) → h < n → first_below n (unbounded_of o c) ≡ None → unbounded_of o c h ≡ None
  none-below zero h less none = absurd (omega (arith, less))
  none-below (suc n) h less none = let parts = none-first (first_below n (unbounded_of o c)) (unbounded_of o c n) none in
      elim (cases_lt h n) [
        | inl under ↦ none-below n h under parts.0
        | inr at ↦ (let same : n ≡ h = omega (arith, less, at) in subst (λ (k : ℕ). unbounded_of o c k ≡ None) same parts.1)
      ]

  none-map : (h : ℕ) (n : Option ℕ) → option_map {U = Place} (λ n. record { hart = h; state = n }) n ≡ None → n ≡ None
  none-map h None none = refl
  none-map h (Some n) none = absurd (cc)

  all-bounded : (t : Bool) (h : ℕ) → h < length o.harts → (shared_of o c).unbounded ≡ None → (touched_of t o c h).unbounded ≡ None
  all-bounded t h less none = by t
    where
      both : ((touched_of true o c h).unbounded ≡ None) × ((touched_of false o c h).unbounded ≡ None)
      both = none-first (touched_of true o c h).unbounded (touched_of false o c h).unbounded (none-map h _ (none-below (length o.harts) h less none))

      by : (t : Bool) → (touched_of t o c h).unbounded ≡ None
      by true = both.0
      by false = both.1

pub bounded : (o : OpeningValue) (c : QueueCertificate) → (shared_of o c).unbounded ≡ None → (stores : Bool) (h : ℕ) → h < length o.harts
    → (touched_of stores o c h).unbounded ≡ None
bounded o c none stores h less = all-bounded o c stores h less none

pub not_shared : (o : OpeningValue) (c : QueueCertificate) (x : ℕ) → IsInNone x (shared_of o c).regions → (stores : Bool) (h j : ℕ) → h < length o.harts
    → j < length o.harts → (h ≡ j → ⊥) → IsInNone x (touched_of true o c h).regions ⊎ IsInNone x (touched_of stores o c j).regions
not_shared o c x none stores h j less-h less-j other = unshared o c x stores (length o.harts) h j less-h less-j other none

-- ---- with one more hart

module _ (o : OpeningValue) (c : QueueCertificate) (n h : ℕ) (s l : Touched) (at : h ≡ n) (stores-are : s ≡ touched_of true o c h)
    (loads-are : l ≡ touched_of false o c h) where
  pub more-shares : (before : Shares) → before ≡ shares_below o c n → with_hart before s.regions l.regions ≡ shares_below o c (n + 1)
  more-shares before is = let one : suc n ≡ n + 1 = omega arith in
      subst (λ (k : ℕ). with_hart before s.regions l.regions ≡ shares_below o c k) one (rw (is, stores-are, loads-are, at) refl)

  pub more-places : (before : Option Place) → before ≡ first_below n (unbounded_of o c)
      → first_of before (unbounded_by h s.unbounded l.unbounded) ≡ first_below (n + 1) (unbounded_of o c)
  more-places before is = let one : suc n ≡ n + 1 = omega arith in
      subst (λ (k : ℕ). first_of before (unbounded_by h s.unbounded l.unbounded) ≡ first_below k (unbounded_of o c)) one
      (rw (is, stores-are, loads-are, at) refl)
