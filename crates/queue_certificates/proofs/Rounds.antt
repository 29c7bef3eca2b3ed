-- Rounds, of as many positions as there are slots: whether one is even, by its positions' remainders by two rounds.
use Rattle.std.proofs.Common.{ℕ, ◌+◌, ◌*◌, ◌/◌, ◌%◌, ◌<◌, ◌≤◌, ◌≡◌, ◌==◌, if◌then◌else◌, Bool, true, false, Option, Some, None, List, inl, inr}
use Rattle.std.proofs.Common.{refl, ◌∙◌, ap, arith}
use Rattle.std.specs.Prelude.{nat_le, nat_lt}
use Rattle.std.proofs.lemmas.Bool.{cases_eq, eq-eqb, ne_eqb, leb-true, ltb-true}
use Rattle.std.proofs.lemmas.Nat.{mul-le}
use Rattle.std.proofs.Math.Nat.{mod-lt, zero-mul}
use Rattle.std.proofs.Math.Arith.{mod-mul}
use Rattle.queue_certificates.specs.{Form, form_value, InRanges, Bounds, bounds_of, is_even_between, is_of_even_round}
use Rattle.queue_certificates.proofs.Bounds.{IsBetween, value-between}

module _ (size : ℕ) (some : 1 ≤ size) (k : ℕ) where
  split : k % (2 * size) ≡ (k / size % 2) * size + k % size
  split = mod-mul k (omega arith) some

  early : k % (2 * size) < size → (k / size % 2 == 0) ≡ true
  early low = elim (cases_eq (k / size % 2) 0) [
    | inl even ↦ eq-eqb (k / size % 2) 0 even
    | inr odd ↦ absurd (
        let whole : 1 * size ≤ k / size % 2 * size = mul-le 1 size (k / size % 2) size (omega (arith, odd)) (omega arith) in
        omega (arith, whole, split, low))
  ]

  late : size ≤ k % (2 * size) → (k / size % 2 == 0) ≡ false
  late high = ne_eqb (k / size % 2) 0 (λ even.
      (let none : k / size % 2 * size ≡ 0 = ap (λ n. n * size) even ∙ zero-mul size in
      let low : k % size < size = mod-lt k some in
      omega (arith, none, split, low, high)))

-- what is known of a form's round holds of each position that has its remainder
pub even-is : (rs : List (Option ℕ)) (xs : List ℕ) → InRanges rs xs → (size : ℕ) (f : Form) (k : ℕ) (t : Bool)
    → form_value f xs % (2 * size) ≡ k % (2 * size) → is_of_even_round rs size f ≡ Some t → (k / size % 2 == 0) ≡ t
even-is rs xs ranges size f k t level is = by (bounds_of (2 * size) rs f) refl is
  where
    by : (o : Option Bounds) → bounds_of (2 * size) rs f ≡ o → is_even_between size o ≡ Some t → (k / size % 2 == 0) ≡ t
    by None of is = absurd (cc)
    by (Some b) of is = first (nat_lt b.high size) refl is
      where
        between : IsBetween (2 * size) f xs b
        between = value-between (2 * size) rs f xs b ranges of

        some : 1 ≤ size
        some = omega (arith, between.some)

        last : (u : Bool) → nat_le size b.low ≡ u → (if u then Some false else None) ≡ Some t → (k / size % 2 == 0) ≡ t
        last true high is = late size some k (let le : size ≤ b.low = leb-true size b.low high in omega (arith, le, between.low, level))
            ∙ (let e : false ≡ t = cc in e)
        last false other is = absurd (cc)

        first : (u : Bool) → nat_lt b.high size ≡ u → (if u then Some true else if nat_le size b.low then Some false else None) ≡ Some t
            → (k / size % 2 == 0) ≡ t
        first true low is = early size some k (let lt : b.high < size = ltb-true b.high size low in omega (arith, lt, between.high, level))
            ∙ (let e : true ≡ t = cc in e)
        first false other is = last (nat_le size b.low) refl is
