-- When two values are equal: by bounds of the difference of their forms, or of what they count as words of one index.
use Rattle.std.proofs.Common.{ℕ, ◌+◌, ◌-◌, ◌*◌, ◌/◌, ◌%◌, ◌^◌, ◌<◌, ◌≤◌, ◌≡◌, ◌==◌, ◌&&◌, if◌then◌else◌, Bool, true, false, Option, Some, None, List}
use Rattle.std.proofs.Common.{refl, sym, ◌∙◌, ap, subst, arith}
use Rattle.std.specs.Prelude.{nat_lt, nat_le}
use Rattle.std.proofs.lemmas.Bool.{and_parts, eqb-true, ltb-true, leb-true, lt-ltb, eq-eqb, ne_eqb, cases_lt}
use Rattle.std.proofs.Math.Nat.{mod-eq_of_lt, mul-div_cancel_left}
use Rattle.slot_queue.specs.Queues.{Queue, index_word}
use Rattle.queue_certificates.specs.Forms.{Form, form_value, number, plus, times, is_same, most, fits_in, InRanges, Bounds}
use Rattle.queue_certificates.specs.States.{KnownValue, linear, index_for, signed_for, ends_as, Has, signed_word, scaled}
use Rattle.queue_certificates.specs.Results.{as_number, bounds, is_nothing, is_zero, agrees, unscaled, is_scaled, standing, both_agree, is_equal_word, is_equal}
use Rattle.queue_certificates.proofs.Forms.{value-plus, value-times, same-value, taken-away}
use Rattle.queue_certificates.proofs.Bounds.{value-below, fits-below}
use Rattle.queue_certificates.proofs.Values.{value-scaled, value-offset, nothing-is, within-nothing, known-is, has-bounds}
use Rattle.queue_certificates.proofs.Endings.{tells-same}

module _ (queues : ℕ → Queue) (xs : List ℕ) (rs : List (Option ℕ)) (ranges : InRanges rs xs) where
  agrees-is : (n : ℕ) (f g : Form) (t : Bool) → agrees rs n f g ≡ Some t → (1 ≤ n) × ((form_value f xs % n == form_value g xs % n) ≡ t)
  agrees-is n f g t is = (
    none.0,
    sym (tells-same (form_value (plus f (times (n - 1) g)) xs % n) (form_value f xs % n) (form_value g xs % n)
        (λ zero. (taken-away n (form_value f xs) (form_value g xs) none.0).0 (sym differs ∙ zero))
        (λ same. differs ∙ (taken-away n (form_value f xs) (form_value g xs) none.0).1 same)) ∙ none.1,
  )
    where
      none : (1 ≤ n) × ((form_value (plus f (times (n - 1) g)) xs % n == 0) ≡ t)
      none = nothing-is n rs (plus f (times (n - 1) g)) xs t ranges is

      differs : form_value (plus f (times (n - 1) g)) xs % n ≡ (form_value f xs + (n - 1) * form_value g xs) % n
      differs = ap (λ y. y % n) (value-plus f (times (n - 1) g) xs ∙ ap (λ y. form_value f xs + y) (value-times (n - 1) g xs))

  -- a signed load leaves different numbers of different ones
  signed-below : (w x y : ℕ) → x < y → signed_word w x < signed_word w y
  signed-below w x y less = by (nat_lt (x + x) (256 ^ w)) (nat_lt (y + y) (256 ^ w)) refl refl
    where
      by : (s t : Bool) → nat_lt (x + x) (256 ^ w) ≡ s → nat_lt (y + y) (256 ^ w) ≡ t
          → (if s then x else x + (2 ^ 32 - 256 ^ w)) < (if t then y else y + (2 ^ 32 - 256 ^ w))
      by true true low high = less
      by true false low high = omega (arith, less)
      by false false low high = omega (arith, less)
      by false true low high = grind (arith, ltb-true, lt-ltb)

  signed-apart : (w x y : ℕ) → signed_word w x ≡ signed_word w y → x ≡ y
  signed-apart w x y same = grind (arith, cases_lt, signed-below)

  signed-equal : (w x y : ℕ) (t : Bool) → (x == y) ≡ t → (signed_word w x == signed_word w y) ≡ t
  signed-equal w x y true is = eq-eqb (signed_word w x) (signed_word w y) (ap (signed_word w) (eqb-true x y is))
  signed-equal w x y false is = ne_eqb (signed_word w x) (signed_word w y) (λ same.
      (let no : true ≡ false = sym (eq-eqb x y (signed-apart w x y same)) ∙ is in cc))

  -- what a value stands for as a word of queue i's index
  standing-is : (i : ℕ) (v : KnownValue) (x : ℕ) (k : Form) → 1 ≤ (queues i).modulus → standing queues rs i v ≡ Some k → Has queues xs v x
      → x ≡ (queues i).base + (queues i).scale * (form_value k xs % (queues i).modulus)
  standing-is i (index_for j f) x k some is has = by (i == j) refl is
    where
      by : (t : Bool) → (i == j) ≡ t → (if t then Some (plus f (number (queues i).offset)) else None) ≡ Some k
          → x ≡ (queues i).base + (queues i).scale * (form_value k xs % (queues i).modulus)
      by false other is = absurd (cc)
      by true same is =
          let e : plus f (number (queues i).offset) ≡ k = cc in
          has ∙ ap (λ n. index_word (queues n) (form_value f xs)) (sym (eqb-true i j same))
          ∙ ap (λ n. (queues i).base + (queues i).scale * (n % (queues i).modulus)) (sym (value-offset (queues i) f xs) ∙ ap (λ g. form_value g xs) e)
  standing-is i (linear f) x k some is has = by (is_scaled queues rs (queues i) f (unscaled queues rs (queues i) f)) refl is
    where
      q : Queue
      q = queues i

      j : Form
      j = unscaled queues rs (queues i) f

      at : (j : Form) → is_scaled queues rs (queues i) f j ≡ true
          → x ≡ (queues i).base + (queues i).scale * (form_value j xs % (queues i).modulus)
      at j ok =
          let p2 = and_parts (is_same (2 ^ 32) f (scaled (queues i) j) && fits_in (most rs (scaled (queues i) j)) (Some (2 ^ 32 - 1)))
          (fits_in (most rs j) (Some ((queues i).modulus - 1))) ok in
          let p1 = and_parts (is_same (2 ^ 32) f (scaled (queues i) j)) (fits_in (most rs (scaled (queues i) j)) (Some (2 ^ 32 - 1))) p2.0 in
          let low : form_value (scaled (queues i) j) xs ≤ 2 ^ 32 - 1 =
          fits-below (most rs (scaled (queues i) j)) (Some (2 ^ 32 - 1)) (form_value (scaled (queues i) j) xs) p1.1
          (λ n at. value-below rs (scaled (queues i) j) xs n ranges at) in
          let less : form_value j xs ≤ (queues i).modulus - 1 =
          fits-below (most rs j) (Some ((queues i).modulus - 1)) (form_value j xs) p2.1 (λ n at. value-below rs j xs n ranges at) in
          has ∙ same-value (2 ^ 32) f (scaled (queues i) j) xs p1.0 ∙ mod-eq_of_lt (omega (arith, low)) ∙ value-scaled (queues i) j xs
          ∙ ap (λ n. (queues i).base + (queues i).scale * n) (sym (mod-eq_of_lt (omega (arith, less, some))))

      by : (t : Bool) → is_scaled queues rs (queues i) f (unscaled queues rs (queues i) f) ≡ t
          → (if t then Some (unscaled queues rs (queues i) f) else None) ≡ Some k
          → x ≡ (queues i).base + (queues i).scale * (form_value k xs % (queues i).modulus)
      by false other is = absurd (cc)
      by true ok is = subst (λ g. x ≡ (queues i).base + (queues i).scale * (form_value g xs % (queues i).modulus))
          (let e : unscaled queues rs (queues i) f ≡ k = cc in e) (at (unscaled queues rs (queues i) f) ok)
  standing-is i other x k some is has = absurd (cc)

  equal-words : (base scale a b : ℕ) (t : Bool) → 1 ≤ scale → (a == b) ≡ t → (base + scale * a == base + scale * b) ≡ t
  equal-words base scale a b true some is = eq-eqb (base + scale * a) (base + scale * b) (ap (λ n. base + scale * n) (eqb-true a b is))
  equal-words base scale a b false some is = ne_eqb (base + scale * a) (base + scale * b) (λ same.
      (let e : scale * a ≡ scale * b = omega (arith, same) in
      let one : a ≡ b = sym (mul-div_cancel_left a some) ∙ ap (λ n. n / scale) e ∙ mul-div_cancel_left b some in
      let no : true ≡ false = sym (eq-eqb a b one) ∙ is in cc))

  equal-word : (i : ℕ) (v w : KnownValue) (x y : ℕ) → Has queues xs v x → Has queues xs w y → (t : Bool)
      → is_equal_word queues rs i v w ≡ Some t → (x == y) ≡ t
  equal-word i v w x y one two t is = by (nat_le 1 (queues i).scale) refl is
    where
      both : 1 ≤ (queues i).scale → (j k : Option Form) → standing queues rs i v ≡ j → standing queues rs i w ≡ k
          → both_agree queues rs (queues i).modulus j k ≡ Some t → (x == y) ≡ t
      both scale None k left right is = absurd (cc)
      both scale (Some j) None left right is = absurd (cc)
      both scale (Some j) (Some k) left right is =
          let a = agrees-is (queues i).modulus j k t is in
          ap (λ n. n == y) (standing-is i v x j a.0 left one)
          ∙ ap (λ n. (queues i).base + (queues i).scale * (form_value j xs % (queues i).modulus) == n) (standing-is i w y k a.0 right two)
          ∙ equal-words (queues i).base (queues i).scale (form_value j xs % (queues i).modulus) (form_value k xs % (queues i).modulus) t scale a.1

      by : (u : Bool) → nat_le 1 (queues i).scale ≡ u
          → (if u then both_agree queues rs (queues i).modulus (standing queues rs i v) (standing queues rs i w) else None) ≡ Some t → (x == y) ≡ t
      by false none is = absurd (cc)
      by true some is = both (leb-true 1 (queues i).scale some) (standing queues rs i v) (standing queues rs i w) refl refl is

  -- a number that is 0, or not, beside another
  zero-is : (v : KnownValue) (x y : ℕ) → Has queues xs v x → (o : Option ℕ) → ((a : ℕ) → o ≡ Some a → y ≡ a) → (t : Bool)
      → is_zero rs v o ≡ Some t → (x == y) ≡ t
  zero-is v x y has None is-a t is = absurd (cc)
  zero-is v x y has (Some a) is-a t is = by (a == 0) refl is
    where
      at : a ≡ 0 → (o : Option Bounds) → bounds rs v ≡ o → is_nothing o ≡ Some t → (x == y) ≡ t
      at none None of is = absurd (cc)
      at none (Some b) of is =
          let between = has-bounds queues rs xs v x b ranges of has in
          ap (λ n. x == n) (is-a a refl ∙ none) ∙ within-nothing b x t between.0 between.1 is

      by : (s : Bool) → (a == 0) ≡ s → (if s then is_nothing (bounds rs v) else None) ≡ Some t → (x == y) ≡ t
      by false other is = absurd (cc)
      by true none is = at (eqb-true a 0 none) (bounds rs v) refl is

  turned : (x y : ℕ) (t : Bool) → (y == x) ≡ t → (x == y) ≡ t
  turned x y true is = eq-eqb x y (sym (eqb-true y x is))
  turned x y false is = ne_eqb x y (λ same. (let no : true ≡ false = sym (eq-eqb y x (sym same)) ∙ is in cc))

  pub equal-is : (v w : KnownValue) (x y : ℕ) → Has queues xs v x → Has queues xs w y → (t : Bool) → is_equal queues rs v w ≡ Some t → (x == y) ≡ t
  equal-is (index_for i f) w x y one two t is = equal-word i (index_for i f) w x y one two t is
  equal-is (signed_for i f) (signed_for j g) x y one two t is = by ((queues i).index_width == (queues j).index_width) refl is
    where
      a : ℕ
      a = index_word (queues i) (form_value f xs)

      b : ℕ
      b = index_word (queues j) (form_value g xs)

      by : (u : Bool) → ((queues i).index_width == (queues j).index_width) ≡ u
          → (if u then is_equal_word queues rs i (index_for i f) (index_for j g) else None) ≡ Some t → (x == y) ≡ t
      by false other is = absurd (cc)
      by true same is = ap (λ n. n == y) one
          ∙ ap (λ n. signed_word (queues i).index_width a == n)
          (two ∙ ap (λ w. signed_word w b) (sym (eqb-true (queues i).index_width (queues j).index_width same)))
          ∙ signed-equal (queues i).index_width a b t (equal-word i (index_for i f) (index_for j g) a b refl refl t is)
  equal-is (ends_as n f) w x y one two t is = zero-is (ends_as n f) x y one (as_number w) (λ a of. known-is queues xs w y a of two) t is
  equal-is (linear f) (ends_as n g) x y one two t is = turned x y t
      (zero-is (ends_as n g) y x two (as_number (linear f)) (λ a of. known-is queues xs (linear f) x a of one) t is)
  equal-is (linear f) (index_for i g) x y one two t is = equal-word i (linear f) (index_for i g) x y one two t is
  equal-is (linear f) (linear g) x y one two t is = ap (λ n. n == y) one ∙ ap (λ n. form_value f xs % 2 ^ 32 == n) two ∙ (agrees-is (2 ^ 32) f g t is).1
  equal-is other beside x y one two t is = absurd (cc)
