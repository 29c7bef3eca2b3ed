-- What has a value, and what follows from that.
use Rattle.std.proofs.Common.{ℕ, ◌-◌, ◌+◌, ◌*◌, ◌/◌, ◌%◌, ◌^◌, ◌<◌, ◌≤◌, ◌≡◌, ◌==◌, ◌&&◌, if◌then◌else◌, Bool, true, false, Option, Some, None, List}
use Rattle.std.proofs.Common.{◌∷◌, refl, sym, ◌∙◌, ap, subst, arith}
use Rattle.std.specs.Prelude.{nat_lt, nat_le, bit_and}
use Rattle.std.specs.Int.Bits.{and_zero_r}
use Rattle.std.proofs.lemmas.Bool.{and_parts, eqb-true, ltb-true, eq-eqb, ne_eqb, cases_eq}
use Rattle.std.proofs.Math.Nat.{mod-lt, mod-eq_of_lt, mod-add-div, add-mul-mod_self_left, mul-add, mul_assoc, zero-mul, mul-zero}
use Rattle.std.proofs.lemmas.Nat.{mul-le, and_mask}
use Rattle.slot_queue.specs.Queues.{Queue, index_word}
use Rattle.queue_certificates.specs.{Form, form_value, number, plus, times, lifted, vanishes, remainder, most, fits_in, is_same, InRanges, Bounds, bounds_of}
use Rattle.queue_certificates.specs.{KnownValue, any, linear, index_for, signed_for, ends_as, has_bits, value_by, Has, signed_word, EndAlike, plain, scaled}
use Rattle.queue_certificates.specs.{of_remainder, is_within_plain, is_within, as_number, bounds, bounds_by, is_nothing, Bits, of_bits, number_bits, bits_of}
use Rattle.queue_certificates.proofs.Forms.{value-plus, value-times, value-lifted, value-number, same-value, constant-value, mod-sum}
use Rattle.queue_certificates.proofs.Bounds.{IsBetween, value-between, value-below, fits-below, value-remainder}
use Rattle.queue_certificates.proofs.Endings.{alike-same, alike-zero}
use Rattle.queue_certificates.proofs.KnownBits.{fewer-bits}

-- an index's word depends on the count's remainder alone
pub word-of-remainder : (q : Queue) (n m : ℕ) → n % q.modulus ≡ m % q.modulus → index_word q n ≡ index_word q m
word-of-remainder q n m same = ap (λ r. q.base + q.scale * r) (mod-sum n q.offset m q.offset q.modulus same refl)

pub value-scaled : (q : Queue) (f : Form) (xs : List ℕ) → form_value (scaled q f) xs ≡ q.base + q.scale * form_value f xs
value-scaled q f xs = value-plus (number q.base) (times q.scale f) xs
    ∙ ap (λ n. n + form_value (times q.scale f) xs) (value-number q.base xs)
    ∙ ap (λ n. q.base + n) (value-times q.scale f xs)

pub value-offset : (q : Queue) (f : Form) (xs : List ℕ) → form_value (plus f (number q.offset)) xs ≡ form_value f xs + q.offset
value-offset q f xs = value-plus f (number q.offset) xs ∙ ap (λ n. form_value f xs + n) (value-number q.offset xs)

pub scaled-mod : (w s m n : ℕ) → 1 ≤ w → s * m ≡ w → s * (n % m) ≡ s * n % w
scaled-mod w s m n positive whole = sym (ap (λ y. y % w) parts ∙ add-mul-mod_self_left (s * (n % m)) w (n / m) ∙ mod-eq_of_lt small)
  where
    some : (1 ≤ s) × (0 < m)
    some = grind (arith, cases_eq, zero-mul, mul-zero)

    parts : s * n ≡ s * (n % m) + w * (n / m)
    parts = sym (ap (λ y. s * y) (mod-add-div n m)) ∙ mul-add s (n % m) (m * (n / m))
        ∙ ap (λ y. s * (n % m) + y) (sym (mul_assoc s m (n / m)) ∙ ap (λ y. y * (n / m)) whole)

    small : s * (n % m) < w
    small =
        let low : n % m < m = mod-lt n some.1 in
        let up : s * (n % m + 1) ≤ s * m = mul-le s (n % m + 1) s m (omega arith) (omega (arith, low)) in
        let more : s * (n % m + 1) ≡ s * (n % m) + s * 1 = mul-add s (n % m) 1 in
        omega (arith, up, more, whole, some.0)

whole-word : (w b s m n : ℕ) → 1 ≤ w → s * m ≡ w → b < s → b + s * (n % m) ≡ (b + s * n) % w
whole-word w b s m n positive whole low = sym (mod-sum b (s * n) b (s * (n % m)) w refl
    (sym (scaled-mod w s m n positive whole) ∙ sym (mod-eq_of_lt (omega (arith, below)))) ∙ mod-eq_of_lt below)
  where
    some : 0 < m
    some = grind (arith, cases_eq, mul-zero)

    below : b + s * (n % m) < w
    below =
        let under : n % m < m = mod-lt n some in
        let up : s * (n % m + 1) ≤ s * m = mul-le s (n % m + 1) s m (omega arith) (omega (arith, under)) in
        let more : s * (n % m + 1) ≡ s * (n % m) + s * 1 = mul-add s (n % m) 1 in
        omega (arith, up, more, whole, low)

-- and is linear where it takes all of a word, or of its bytes
pub word-linear : (w : ℕ) (q : Queue) (f : Form) (xs : List ℕ) → 1 ≤ w → q.scale * q.modulus ≡ w → q.base < q.scale
    → index_word q (form_value f xs) ≡ form_value (scaled q (plus f (number q.offset))) xs % w
word-linear w q f xs positive whole low = whole-word w q.base q.scale q.modulus (form_value f xs + q.offset) positive whole low
    ∙ ap (λ n. n % w) (sym (value-scaled q (plus f (number q.offset)) xs ∙ ap (λ n. q.base + q.scale * n) (value-offset q f xs)))

-- whether a number between bounds is 0, where these tell
pub within-nothing : (b : Bounds) (x : ℕ) (t : Bool) → b.low ≤ x → x ≤ b.high → is_nothing (Some b) ≡ Some t → (x == 0) ≡ t
within-nothing b x t low high is = by (nat_lt 0 b.low) (b.high == 0) refl refl is
  where
    by : (r s : Bool) → nat_lt 0 b.low ≡ r → (b.high == 0) ≡ s → (if r then Some false else (if s then Some true else None)) ≡ Some t → (x == 0) ≡ t
    by true s some none is = ne_eqb x 0 (λ e. (let u : 0 < b.low = ltb-true 0 b.low some in omega (arith, u, e, low))) ∙ (let e : false ≡ t = cc in e)
    by false true some none is = eq-eqb x 0 (let u : b.high ≡ 0 = eqb-true b.high 0 none in omega (arith, u, high)) ∙ (let e : true ≡ t = cc in e)
    by false false some none is = absurd (cc)

-- whether a remainder is 0, where bounds tell
pub nothing-is : (n : ℕ) (rs : List (Option ℕ)) (f : Form) (xs : List ℕ) (t : Bool) → InRanges rs xs → is_nothing (bounds_of n rs f) ≡ Some t
    → (1 ≤ n) × ((form_value f xs % n == 0) ≡ t)
nothing-is n rs f xs t ranges is = by (bounds_of n rs f) refl is
  where
    by : (o : Option Bounds) → bounds_of n rs f ≡ o → is_nothing o ≡ Some t → (1 ≤ n) × ((form_value f xs % n == 0) ≡ t)
    by None of is = absurd (cc)
    by (Some b) of is = (between.some, within-nothing b (form_value f xs % n) t between.low between.high is)
      where
        between : IsBetween n f xs b
        between = value-between n rs f xs b ranges of

number-bounds : (n x : ℕ) (o : Option Bool) (b : Bounds) → x < 2 ^ n → ((t : Bool) → o ≡ Some t → (x == 0) ≡ t) → bounds_by n o ≡ Some b
    → (b.low ≤ x) × (x ≤ b.high)
number-bounds n x None b low is of = absurd (cc)
number-bounds n x (Some true) b low is of = subst (λ z. (z.low ≤ x) × (x ≤ z.high)) (let e : record { low = 0; high = 0 } ≡ b = cc in e)
    (omega arith, (let none : x ≡ 0 = eqb-true x 0 (is true refl) in omega (arith, none)))
number-bounds n x (Some false) b low is of = subst (λ z. (z.low ≤ x) × (x ≤ z.high)) (let e : record { low = 1; high = 2 ^ n - 1 } ≡ b = cc in e)
    (eqb-false x (is false refl), omega (arith, low))
  where
    eqb-false : (x : ℕ) → (x == 0) ≡ false → 1 ≤ x
    eqb-false x other = grind (arith, cases_eq, eq-eqb)

module _ (queues : ℕ → Queue) where
  pub has-by : (t : Form → Form) (xs ys : List ℕ) → ((f : Form) → form_value (t f) ys ≡ form_value f xs)
      → (v : KnownValue) (x : ℕ) → Has queues xs v x → Has queues ys (value_by t v) x
  has-by t xs ys same any x has = tt
  has-by t xs ys same (linear f) x has = has ∙ ap (λ n. n % 2 ^ 32) (sym (same f))
  has-by t xs ys same (index_for i f) x has = has ∙ ap (index_word (queues i)) (sym (same f))
  has-by t xs ys same (signed_for i f) x has = has ∙ ap (λ n. signed_word (queues i).index_width (index_word (queues i) n)) (sym (same f))
  has-by t xs ys same (ends_as n f) x has = (has.0, subst (EndAlike n x) (sym (same f)) has.1)
  has-by t xs ys same (has_bits m b) x has = has

  pub has-back : (t : Form → Form) (xs ys : List ℕ) → ((f : Form) → form_value (t f) ys ≡ form_value f xs)
      → (v : KnownValue) (x : ℕ) → Has queues ys (value_by t v) x → Has queues xs v x
  has-back t xs ys same any x has = tt
  has-back t xs ys same (linear f) x has = has ∙ ap (λ n. n % 2 ^ 32) (same f)
  has-back t xs ys same (index_for i f) x has = has ∙ ap (index_word (queues i)) (same f)
  has-back t xs ys same (signed_for i f) x has = has ∙ ap (λ n. signed_word (queues i).index_width (index_word (queues i) n)) (same f)
  has-back t xs ys same (ends_as n f) x has = (has.0, subst (EndAlike n x) (same f) has.1)
  has-back t xs ys same (has_bits m b) x has = has

  pub has-lifted : (v : KnownValue) (x y : ℕ) (xs : List ℕ) → Has queues xs v x → Has queues (y ∷ xs) (value_by lifted v) x
  has-lifted v x y xs has = has-by lifted xs (y ∷ xs) (λ f. value-lifted f y xs) v x has

  module _ (rs : List (Option ℕ)) (xs : List ℕ) (ranges : InRanges rs xs) where
    -- the two ways to say one word
    same-word : (i : ℕ) (f : Form) (x : ℕ) → (Has queues xs (index_for i f) x → Has queues xs (plain queues rs (index_for i f)) x)
        × (Has queues xs (plain queues rs (index_for i f)) x → Has queues xs (index_for i f) x)
    same-word i f x = by (remainder rs (plus f (number (queues i).offset)) (queues i).modulus) refl
      where
        linear-or : (t : Bool) → (((queues i).scale * (queues i).modulus == 2 ^ 32) && nat_lt (queues i).base (queues i).scale) ≡ t
            → (Has queues xs (index_for i f) x → Has queues xs (if t then linear (scaled (queues i) (plus f (number (queues i).offset))) else index_for i f) x)
            × (Has queues xs (if t then linear (scaled (queues i) (plus f (number (queues i).offset))) else index_for i f) x → Has queues xs (index_for i f) x)
        linear-or true ok =
            let parts = and_parts ((queues i).scale * (queues i).modulus == 2 ^ 32) (nat_lt (queues i).base (queues i).scale) ok in
            let e : index_word (queues i) (form_value f xs) ≡ form_value (scaled (queues i) (plus f (number (queues i).offset))) xs % 2 ^ 32 =
            word-linear (2 ^ 32) (queues i) f xs (omega arith) (eqb-true ((queues i).scale * (queues i).modulus) (2 ^ 32) parts.0)
            (ltb-true (queues i).base (queues i).scale parts.1) in
            (λ has. has ∙ e, λ has. has ∙ sym e)
        linear-or false part = (λ has. has, λ has. has)

        small-or : (g : Form) → remainder rs (plus f (number (queues i).offset)) (queues i).modulus ≡ Some g
            → (t : Bool) → fits_in (most rs (scaled (queues i) g)) (Some (2 ^ 32 - 1)) ≡ t
            → (Has queues xs (index_for i f) x → Has queues xs (if t then linear (scaled (queues i) g) else index_for i f) x)
            × (Has queues xs (if t then linear (scaled (queues i) g) else index_for i f) x → Has queues xs (index_for i f) x)
        small-or g is true small =
            let r = value-remainder rs (plus f (number (queues i).offset)) (queues i).modulus g xs ranges is in
            let low : form_value (scaled (queues i) g) xs ≤ 2 ^ 32 - 1 =
            fits-below (most rs (scaled (queues i) g)) (Some (2 ^ 32 - 1)) (form_value (scaled (queues i) g) xs) small
            (λ n at. value-below rs (scaled (queues i) g) xs n ranges at) in
            let e : index_word (queues i) (form_value f xs) ≡ form_value (scaled (queues i) g) xs % 2 ^ 32 =
            ap (λ n. (queues i).base + (queues i).scale * n)
            (ap (λ n. n % (queues i).modulus) (sym (value-offset (queues i) f xs)) ∙ sym r.0)
            ∙ sym (value-scaled (queues i) g xs) ∙ sym (mod-eq_of_lt (omega (arith, low))) in
            (λ has. has ∙ e, λ has. has ∙ sym e)
        small-or g is false large = (λ has. has, λ has. has)

        by : (o : Option Form) → remainder rs (plus f (number (queues i).offset)) (queues i).modulus ≡ o
            → (Has queues xs (index_for i f) x → Has queues xs (of_remainder rs (queues i) i f o) x)
            × (Has queues xs (of_remainder rs (queues i) i f o) x → Has queues xs (index_for i f) x)
        by None is = linear-or (((queues i).scale * (queues i).modulus == 2 ^ 32) && nat_lt (queues i).base (queues i).scale) refl
        by (Some g) is = small-or g is (fits_in (most rs (scaled (queues i) g)) (Some (2 ^ 32 - 1))) refl

    pub has-plain : (v : KnownValue) (x : ℕ) → Has queues xs v x → Has queues xs (plain queues rs v) x
    has-plain any x has = tt
    has-plain (index_for i f) x has = (same-word i f x).0 has
    has-plain other x has = has

    pub plain-has : (v : KnownValue) (x : ℕ) → Has queues xs (plain queues rs v) x → Has queues xs v x
    plain-has any x has = tt
    plain-has (index_for i f) x has = (same-word i f x).1 has
    plain-has other x has = has

    within-plain : (v w : KnownValue) (x : ℕ) → is_within_plain queues rs v w ≡ true → Has queues xs v x → Has queues xs w x
    within-plain v any x ok has = tt
    within-plain (linear f) (linear g) x ok has = has ∙ same-value (2 ^ 32) f g xs ok
    within-plain (has_bits m b) (has_bits n c) x ok has =
        let parts = and_parts (bit_and m n == n) (bit_and b n == c) ok in (
          has.0,
          fewer-bits x m n (eqb-true (bit_and m n) n parts.0) ∙ ap (λ y. bit_and y n) has.1 ∙ eqb-true (bit_and b n) c parts.1,
        )
    within-plain (ends_as n f) (ends_as m g) x ok has =
        let p2 = and_parts ((n == m) && nat_le n 32) (is_same (2 ^ n) f g) ok in
        let p1 = and_parts (n == m) (nat_le n 32) p2.0 in
        subst (λ k. (x < 2 ^ k) × EndAlike k x (form_value g xs)) (eqb-true n m p1.0)
        (has.0, alike-same n x (form_value f xs) (form_value g xs) (same-value (2 ^ n) f g xs p2.1) has.1)
    within-plain (signed_for i f) (signed_for j g) x ok has =
        let parts = and_parts (i == j) (is_same ((queues i).modulus) f g) ok in
        subst (λ k. x ≡ signed_word (queues k).index_width (index_word (queues k) (form_value g xs))) (eqb-true i j parts.0)
        (has ∙ ap (signed_word (queues i).index_width)
        (word-of-remainder (queues i) (form_value f xs) (form_value g xs) (same-value ((queues i).modulus) f g xs parts.1)))
    within-plain (index_for i f) (index_for j g) x ok has =
        let parts = and_parts (i == j) (is_same ((queues i).modulus) f g) ok in
        subst (λ k. x ≡ index_word (queues k) (form_value g xs)) (eqb-true i j parts.0)
        (has ∙ word-of-remainder (queues i) (form_value f xs) (form_value g xs) (same-value ((queues i).modulus) f g xs parts.1))
    within-plain other beside x ok has = absurd (cc)

    pub within : (v w : KnownValue) (x : ℕ) → is_within queues rs v w ≡ true → Has queues xs v x → Has queues xs w x
    within v w x ok has = plain-has w x (within-plain (plain queues rs v) (plain queues rs w) x ok (has-plain v x has))

  pub known-is : (xs : List ℕ) (v : KnownValue) (x a : ℕ) → as_number v ≡ Some a → Has queues xs v x → x ≡ a
  known-is xs (linear f) x a is has = by (vanishes (2 ^ 32) f.factors) refl is
    where
      by : (t : Bool) → vanishes (2 ^ 32) f.factors ≡ t → (if t then Some (f.constant % 2 ^ 32) else None) ≡ Some a → x ≡ a
      by false some is = absurd (cc)
      by true none is = has ∙ constant-value (2 ^ 32) f xs none ∙ (let e : f.constant % 2 ^ 32 ≡ a = cc in e)
  known-is xs other x a is has = absurd (cc)

  pub has-bounds : (rs : List (Option ℕ)) (xs : List ℕ) (v : KnownValue) (x : ℕ) (b : Bounds) → InRanges rs xs → bounds rs v ≡ Some b → Has queues xs v x
      → (b.low ≤ x) × (x ≤ b.high)
  has-bounds rs xs (ends_as n f) x b ranges is has = by (nat_le 1 n && nat_le n 32) is
    where
      by : (s : Bool) → (if s then bounds_by n (is_nothing (bounds_of (2 ^ n) rs f)) else None) ≡ Some b → (b.low ≤ x) × (x ≤ b.high)
      by false is = absurd (cc)
      by true is = number-bounds n x (is_nothing (bounds_of (2 ^ n) rs f)) b has.0
          (λ t of. alike-zero n x (form_value f xs) t has.0 has.1 (nothing-is (2 ^ n) rs f xs t ranges of).1) is
  has-bounds rs xs (linear f) x b ranges is has = let e = value-between (2 ^ 32) rs f xs b ranges is in
      subst (λ z. (b.low ≤ z) × (z ≤ b.high)) (sym has) (e.low, e.high)
  has-bounds rs xs other x b ranges is has = absurd (cc)

  -- ---- bits

  whole-bits : (x : ℕ) → x < 2 ^ 32 → bit_and x (2 ^ 32 - 1) ≡ x
  whole-bits x small = and_mask x 32 ∙ mod-eq_of_lt small

  pub of-bits-has : (xs : List ℕ) (m b x : ℕ) → x < 2 ^ 32 → bit_and x m ≡ b → Has queues xs (of_bits m b) x
  of-bits-has xs m b x small is = by (m == 2 ^ 32 - 1) refl
    where
      by : (t : Bool) → (m == 2 ^ 32 - 1) ≡ t → Has queues xs (if t then linear (number b) else has_bits m b) x
      by false some = (small, is)
      by true all =
          let same : x ≡ b = sym (whole-bits x small) ∙ ap (bit_and x) (sym (eqb-true m (2 ^ 32 - 1) all)) ∙ is in
          sym (mod-eq_of_lt small) ∙ ap (λ z. z % 2 ^ 32) (same ∙ sym (value-number b xs))

  pub bits-have : (xs : List ℕ) (v : KnownValue) (x : ℕ) (k : Bits) → bits_of v ≡ Some k → Has queues xs v x → (x < 2 ^ 32) × (bit_and x k.mask ≡ k.bits)
  bits-have xs (has_bits m b) x k is has = subst (λ (k : Bits). (x < 2 ^ 32) × (bit_and x k.mask ≡ k.bits))
      (let e : record { mask = m; bits = b } ≡ k = cc in e) has
  bits-have xs (linear f) x k is has = (
    small,
    subst (λ (k : Bits). bit_and x k.mask ≡ k.bits)
        (let e : number_bits (as_number (linear f)) ≡ k = cc in e) (by (as_number (linear f)) refl),
  )
    where
      small : x < 2 ^ 32
      small = subst (λ y. y < 2 ^ 32) (sym has) (mod-lt (form_value f xs) (omega arith))

      by : (o : Option ℕ) → as_number (linear f) ≡ o → bit_and x (number_bits o).mask ≡ (number_bits o).bits
      by None is = and_zero_r x
      by (Some n) is = whole-bits x small ∙ known-is xs (linear f) x n is has
  bits-have xs other x k is has = absurd (cc)
