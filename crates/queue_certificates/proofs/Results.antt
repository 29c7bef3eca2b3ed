-- What an instruction leaves in a register has the result's value.
use Rattle.std.proofs.Common.{ℕ, ℤ, pos, negsuc, zero, suc, ◌+◌, ◌-◌, ◌*◌, ◌/◌, ◌%◌, ◌^◌, ◌<◌, ◌≤◌, ◌≡◌, ◌==◌, ◌&&◌, ◌+ℤ◌, inl, inr, if◌then◌else◌, not, Bool}
use Rattle.std.proofs.Common.{true, false, Option, Some, None, List, ◌∷◌, refl, sym, ◌∙◌, ap, subst, arith}
use Rattle.std.specs.Prelude.{int_lt, nat_lt, nat_le, ◌-ℤ◌, bit_and, bit_or, bit_xor, count_ones}
use Rattle.std.specs.Int.{trailing_zeros, w32}
use Rattle.std.specs.Int.Bits.{xor_add_and, and_zero_r}
use Rattle.std.proofs.lemmas.Int.{ints}
use Rattle.std.proofs.lemmas.Bool.{and_parts, eqb-true, eq-eqb, ne_eqb, ltb-true, leb-true, lt-ltb, le-ltb, cases_lt}
use Rattle.std.proofs.lemmas.Nat.{le-div, pow_pos, pow-add, shr_split, field_of, and_mask, and_block, and_le_l, and_le_r, and_comm, mul-le, mul-mod_first}
use Rattle.std.proofs.lemmas.Nat.{xor_lt, or_lt, shr_le, div-mul-add}
use Rattle.std.proofs.Math.Nat.{mod-eq_of_lt, mod-mod_of_dvd, div-mul-le_self, pow-le-pow_right, mul-div_cancel_left, mod-mod, mod-zero, zero-mod, mod_self}
use Rattle.std.proofs.Math.Nat.{mod-lt, div-lt_iff_lt-mul, mod-add-div, add-mul, mul-add, add-mul-mod_self_left, mul_comm, dvd-sub}
use Rattle.std.proofs.lemmas.Nat.Gcd.{dvd_of_mod-eq-zero, mod-eq-zero_of_dvd}
use Rattle.rv_decode.specs.declared.instruction.BranchOp.{BranchOp}
use Rattle.rv_decode.specs.declared.instruction.BranchOp.TheVariants as branch
use Rattle.rv_decode.specs.declared.instruction.ImmediateOp.{ImmediateOp}
use Rattle.rv_decode.specs.declared.instruction.ImmediateOp.TheVariants as immediate
use Rattle.rv_decode.specs.declared.instruction.ShiftOp.{ShiftOp}
use Rattle.rv_decode.specs.declared.instruction.ShiftOp.TheVariants as shift
use Rattle.rv_decode.specs.declared.instruction.RegisterOp.{RegisterOp}
use Rattle.rv_decode.specs.declared.instruction.RegisterOp.TheVariants as register
use Rattle.rv_decode.specs.Word.{signed}
use Rattle.hart.specs.Effects.{word, shifted_down, computed, with_immediate, shifted, sign_extended, is_taken, flag}
use Rattle.slot_queue.specs.Queues.{Queue, index_word}
use Rattle.queue_certificates.specs.{remainder_word, is_same, bounds_of, Form, form_value, number, first_variable, plus, times, lifted, InRanges, Bounds, most}
use Rattle.queue_certificates.specs.{KnownValue, any, linear, index_for, signed_for, ends_as, has_bits, Has, signed_word, scaled, Result, just, exactly}
use Rattle.queue_certificates.specs.{any_up_to, or_up_to, as_number, or_else, both, is_below, is_below_signed, set_less, negated, flag_of, shifted_right}
use Rattle.queue_certificates.specs.{sum_of, number_and, taken_known, Rest, of_rest, negative, rests_added, whole, rest_of, turned, result_by, shifted_left}
use Rattle.queue_certificates.specs.{xor_of, ending_in, ending_by, Bits, of_bits, bits_of, either_bits, or_of, kept_bits, sign_or, is_less, index_rest}
use Rattle.queue_certificates.specs.{is_count, counting, rest_counted, multiple_or, masked_row, if_unbounded, remaining, without, shifted_back, masked}
use Rattle.queue_certificates.specs.{masked_by, bounds, is_equal, immediate_part, of_immediate, shift_part, of_shift, register_part, of_registers, branch_part}
use Rattle.queue_certificates.specs.{is_branch_taken, shifted_with_sign}
use Rattle.queue_certificates.proofs.Forms.{taken-away, same-exactly, value-plus, value-times, value-number, value-first, value-lifted, mod-sum, mod-product}
use Rattle.queue_certificates.proofs.Forms.{plus-value, times-value, round-up}
use Rattle.queue_certificates.proofs.Bounds.{value-word}
use Rattle.queue_certificates.proofs.Values.{scaled-mod, value-scaled, value-offset, has-lifted, known-is, has-bounds, of-bits-has, bits-have}
use Rattle.queue_certificates.proofs.KnownBits.{or-bits, kept-bits, shl-bits, shr-bits, sar-bits, highest-bit}
use Rattle.queue_certificates.proofs.Endings.{alike-same, alike-low, xor-alike}
use Rattle.queue_certificates.proofs.Equals.{equal-is}

pub word-of-sum : (x : ℕ) (n : ℤ) → word (pos x +ℤ n) ≡ (x + word n) % 2 ^ 32
word-of-sum x (pos k) = omega arith
word-of-sum x (negsuc k) = grind (arith, cases_lt, negsuc, ints)

pub word-small : (n : ℤ) → word n < 2 ^ 32
word-small (pos k) = omega arith
word-small (negsuc k) = omega arith

word-of-difference : (a b : ℕ) → word (pos a -ℤ pos b) ≡ (a + b * (2 ^ 32 - 1)) % 2 ^ 32
word-of-difference a zero = omega (arith, ints)
word-of-difference a (suc b) = word-of-sum a (negsuc b)
    ∙ (let e : (a + (2 ^ 32 - 1 - b % 2 ^ 32)) % 2 ^ 32 ≡ (a + suc b * (2 ^ 32 - 1)) % 2 ^ 32 = omega arith in e)

signed-small : (x : ℕ) → x < 2 ^ 31 → signed x ≡ pos x
signed-small x small = ap (λ t. if t then pos x else pos x -ℤ pos (2 ^ 32)) (lt-ltb x (2 ^ 31) small)

-- a shift to the right with the sign, by what its highest bit fills
shifted-signed : (x a : ℕ) → x < 2 ^ 32 → a ≤ 31 → shifted shift.RightArithmetic x a
    ≡ (if nat_lt (x / 2 ^ a + x / 2 ^ a) (2 ^ (31 - a + 1)) then x / 2 ^ a else x / 2 ^ a + (2 ^ a - 1) * 2 ^ (31 - a + 1))
shifted-signed x a small low = elim (cases_lt x (2 ^ 31)) [
  | inl less ↦ ap (λ z. word (shifted_down z a)) (signed-small x less) ∙ mod-eq_of_lt (let le : q ≤ x = shr_le x a in omega (arith, le, small))
      ∙ sym (ap (λ t. if t then q else q + (p - 1) * n) (lt-ltb (q + q) n (under less)))
  | inr more ↦ ap (λ z. word (shifted_down z a)) (negative-of more) ∙ ap (λ y. 2 ^ 32 - 1 - y % 2 ^ 32) (turned-div more)
      ∙ filled ∙ sym (ap (λ t. if t then q else q + (p - 1) * n) (le-ltb (q + q) n (over more)))
]
  where
    p : ℕ
    p = 2 ^ a

    n : ℕ
    n = 2 ^ (31 - a + 1)

    q : ℕ
    q = x / p

    twice : n ≡ 2 ^ (31 - a) + 2 ^ (31 - a)
    twice = pow-add 2 (31 - a) 1 ∙ (let e : 2 ^ (31 - a) * 2 ^ 1 ≡ 2 ^ (31 - a) + 2 ^ (31 - a) = omega arith in e)

    half : 2 ^ 31 ≡ 2 ^ (31 - a) * p
    half = ap (λ i. 2 ^ i) (let e : 31 ≡ 31 - a + a = omega (arith, low) in e) ∙ pow-add 2 (31 - a) a

    whole : 2 ^ 32 ≡ n * p
    whole = ap (λ i. 2 ^ i) (let e : 32 ≡ 31 - a + 1 + a = omega (arith, low) in e) ∙ pow-add 2 (31 - a + 1) a

    under : x < 2 ^ 31 → q + q < n
    under less = let few : q < 2 ^ (31 - a) = (div-lt_iff_lt-mul {k = p} {x = x} {y = 2 ^ (31 - a)} (pow_pos a)).1 (subst (λ k. x < k) half less) in
        omega (arith, few, twice)

    over : 2 ^ 31 ≤ x → n ≤ q + q
    over more = elim (cases_lt q (2 ^ (31 - a))) [
      | inl few ↦ absurd (let less : x < 2 ^ (31 - a) * p = (div-lt_iff_lt-mul {k = p} {x = x} {y = 2 ^ (31 - a)} (pow_pos a)).0 few in
          omega (arith, less, half, more))
      | inr many ↦ omega (arith, many, twice)
    ]

    negative-of : 2 ^ 31 ≤ x → signed x ≡ negsuc (2 ^ 32 - 1 - x)
    negative-of more = ap (λ t. if t then pos x else pos x -ℤ pos (2 ^ 32)) (le-ltb x (2 ^ 31) more)
        ∙ (let e : pos x -ℤ pos (2 ^ 32) ≡ negsuc (2 ^ 32 - 1 - x) = omega (arith, ints, small) in e)

    few-rows : q < n
    few-rows = (div-lt_iff_lt-mul {k = p} {x = x} {y = n} (pow_pos a)).1 (subst (λ k. x < k) whole small)

    turned-div : 2 ^ 31 ≤ x → (2 ^ 32 - 1 - x) / p ≡ n - 1 - q
    turned-div more =
        let rest : x % p < p = mod-lt x (pow_pos a) in
        let split : q * p + x % p ≡ x = shr_split x a in
        let rows : n - 1 - q + 1 + q ≡ n = omega (arith, few-rows) in
        let sum : (n - 1 - q) * p + p + q * p ≡ n * p =
        (let e : (n - 1 - q) * p + p + q * p ≡ (n - 1 - q) * p + 1 * p + q * p = omega arith in e)
        ∙ sym (add-mul (n - 1 - q + 1) q p ∙ ap (λ k. k + q * p) (add-mul (n - 1 - q) 1 p)) ∙ ap (λ k. k * p) rows in
        let is : 2 ^ 32 - 1 - x ≡ (n - 1 - q) * p + (p - 1 - x % p) = omega (arith, rest, split, sum, whole) in
        ap (λ y. y / p) is ∙ div-mul-add (n - 1 - q) p (p - 1 - x % p) (omega (arith, rest))

    filled : 2 ^ 32 - 1 - (n - 1 - q) % 2 ^ 32 ≡ q + (p - 1) * n
    filled =
        let some : 1 ≤ p = pow_pos a in
        let up : n ≤ n * p = (let e : n * 1 ≤ n * p = mul-le n 1 n p (omega arith) some in omega (arith, e)) in
        let same : (p - 1) * n + n ≡ n * p =
        (let e : (p - 1) * n + n ≡ (p - 1) * n + 1 * n = omega arith in e) ∙ sym (add-mul (p - 1) 1 n)
        ∙ ap (λ k. k * n) (let e : p - 1 + 1 ≡ p = omega (arith, some) in e) ∙ mul_comm p n in
        let rest : (n - 1 - q) % 2 ^ 32 ≡ n - 1 - q = mod-eq_of_lt (omega (arith, up, whole, few-rows)) in
        omega (arith, rest, same, whole, few-rows, up)

-- a signed load of `bits` bits, of a number that has no more
pub signed-of-bits : (bits width x : ℕ) → 2 ^ (bits - 1) + 2 ^ (bits - 1) ≡ 256 ^ width → 2 ^ bits ≡ 256 ^ width → 256 ^ width ≤ 2 ^ 32
    → x < 256 ^ width → sign_extended bits x ≡ signed_word width x
signed-of-bits bits width x half all small low = grind (arith, cases_lt, lt-ltb, le-ltb, word-of-difference, low)

pub signed-fits : (width x : ℕ) → x < 256 ^ width → 256 ^ width ≤ 2 ^ 32 → signed_word width x < 2 ^ 32
signed-fits width x low small = by (nat_lt (x + x) (256 ^ width))
  where
    by : (t : Bool) → (if t then x else x + (2 ^ 32 - 256 ^ width)) < 2 ^ 32
    by true = omega (arith, low, small)
    by false = omega (arith, low, small)

pub divisor-below : (n : ℕ) → 2 ^ 32 % n ≡ 0 → n ≤ 2 ^ 32
divisor-below n divides = elim (cases_lt (2 ^ 32) n) [
  | inl over ↦ absurd (let same : 2 ^ 32 % n ≡ 2 ^ 32 = mod-eq_of_lt over in omega (arith, same, divides))
  | inr under ↦ under
]

-- remainders by m decide those by what divides m
coarser : (m n a b : ℕ) → m % n ≡ 0 → a % m ≡ b % m → a % n ≡ b % n
coarser m n a b divides same = sym (mod-mod_of_dvd n a (dvd_of_mod-eq-zero n divides)) ∙ ap (λ y. y % n) same
    ∙ mod-mod_of_dvd n b (dvd_of_mod-eq-zero n divides)

-- the remainder of an index's word is by its scale and modulus
index-by : (q : Queue) (f : Form) (r : Rest) → index_rest q f ≡ Some r → r.by ≡ q.scale * q.modulus
index-by q f r is = by (2 ^ 32 % (q.scale * q.modulus) == 0) is
  where
    by : (t : Bool) → (if t then Some (record { by = q.scale * q.modulus; form = scaled q (plus f (number q.offset)) }) else None) ≡ Some r
        → r.by ≡ q.scale * q.modulus
    by false is = absurd (cc)
    by true is = cc

some-divisor : (n : ℕ) → 2 ^ 32 % n ≡ 0 → 1 ≤ n
some-divisor zero divides = absurd (let e : 2 ^ 32 % 0 ≡ 2 ^ 32 = mod-zero (2 ^ 32) in omega (arith, e, divides))
some-divisor (suc n) divides = omega arith

-- a signed load leaves a remainder that divides both
pub signed-rest : (w n x : ℕ) → 2 ^ 32 % n ≡ 0 → 256 ^ w % n ≡ 0 → signed_word w x % n ≡ x % n
signed-rest w n x words bytes = by (nat_lt (x + x) (256 ^ w))
  where
    none : (2 ^ 32 - 256 ^ w) % n ≡ 0
    none = mod-eq-zero_of_dvd n (dvd-sub n (dvd_of_mod-eq-zero n words) (dvd_of_mod-eq-zero n bytes))

    by : (t : Bool) → (if t then x else x + (2 ^ 32 - 256 ^ w)) % n ≡ x % n
    by true = refl
    by false = mod-sum x (2 ^ 32 - 256 ^ w) x 0 n refl (none ∙ sym (zero-mod n)) ∙ (let e : x + 0 ≡ x = omega arith in ap (λ y. y % n) e)

-- bits in a row from bit k on
row-bits : (x k j : ℕ) → bit_and x ((2 ^ j - 1) * 2 ^ k) ≡ x / 2 ^ k % 2 ^ j * 2 ^ k
row-bits x k j =
    let parts : x / 2 ^ k * 2 ^ k + x % 2 ^ k ≡ x = shr_split x k in
    let whole : (2 ^ j - 1) * 2 ^ k + 0 ≡ (2 ^ j - 1) * 2 ^ k = omega arith in
    let blocks : bit_and (x / 2 ^ k * 2 ^ k + x % 2 ^ k) ((2 ^ j - 1) * 2 ^ k + 0) ≡ bit_and (x / 2 ^ k) (2 ^ j - 1) * 2 ^ k + bit_and (x % 2 ^ k) 0 =
    and_block k (x / 2 ^ k) (2 ^ j - 1) (x % 2 ^ k) 0 (mod-lt x (pow_pos k)) (pow_pos k) in
    sym (ap (λ y. bit_and y ((2 ^ j - 1) * 2 ^ k + 0)) parts ∙ ap (bit_and x) whole) ∙ blocks
    ∙ ap (λ y. bit_and (x / 2 ^ k) (2 ^ j - 1) * 2 ^ k + y) (and_zero_r (x % 2 ^ k))
    ∙ (let z : bit_and (x / 2 ^ k) (2 ^ j - 1) * 2 ^ k + 0 ≡ bit_and (x / 2 ^ k) (2 ^ j - 1) * 2 ^ k = omega arith in z)
    ∙ ap (λ y. y * 2 ^ k) (and_mask (x / 2 ^ k) j)

turned-bits : (x : ℕ) → x < 2 ^ 32 → bit_xor x (2 ^ 32 - 1) ≡ 2 ^ 32 - 1 - x
turned-bits x small =
    let low : bit_and x (2 ^ 32 - 1) ≡ x = and_mask x 32 ∙ mod-eq_of_lt small in
    let both : bit_xor x (2 ^ 32 - 1) + bit_and x (2 ^ 32 - 1) * 2 ≡ x + (2 ^ 32 - 1) = xor_add_and x (2 ^ 32 - 1) in omega (arith, low, both, small)

module _ (queues : ℕ → Queue) (xs : List ℕ) where
  -- x has this remainder
  abbrev IsRest : Rest → ℕ → Type 0
  IsRest r x = (2 ^ 32 % r.by ≡ 0) × (x % r.by ≡ form_value r.form xs % r.by)

  abbrev HasRest : Option Rest → ℕ → Type 0
  HasRest o x = (r : Rest) → o ≡ Some r → IsRest r x

  whole-rest : (f : Form) (x : ℕ) → x ≡ form_value f xs % 2 ^ 32 → HasRest (whole f) x
  whole-rest f x has r is = subst (λ s. IsRest s x) (let e : record { by = 2 ^ 32; form = f } ≡ r = cc in e)
      (omega arith, ap (λ y. y % 2 ^ 32) has ∙ mod-mod (form_value f xs) (2 ^ 32))

  index-rest : (i : ℕ) (f : Form) (x : ℕ) → x ≡ index_word (queues i) (form_value f xs) → HasRest (index_rest (queues i) f) x
  index-rest i f x has r is = by (2 ^ 32 % ((queues i).scale * (queues i).modulus) == 0) refl is
    where
      n : ℕ
      n = (queues i).scale * (queues i).modulus

      g : Form
      g = scaled (queues i) (plus f (number (queues i).offset))

      at : 2 ^ 32 % n ≡ 0 → x % n ≡ form_value g xs % n
      at divides =
          let count = form_value f xs + (queues i).offset in
          let part : (queues i).scale * (count % (queues i).modulus) ≡ (queues i).scale * count % n =
          scaled-mod n (queues i).scale (queues i).modulus count (some-divisor n divides) refl in
          ap (λ y. y % n) has
          ∙ mod-sum (queues i).base ((queues i).scale * (count % (queues i).modulus)) (queues i).base ((queues i).scale * count) n refl
          (ap (λ y. y % n) part ∙ mod-mod ((queues i).scale * count) n)
          ∙ ap (λ y. y % n) (sym (value-scaled (queues i) (plus f (number (queues i).offset)) xs
          ∙ ap (λ y. (queues i).base + (queues i).scale * y) (value-offset (queues i) f xs)))

      by : (t : Bool) → (2 ^ 32 % n == 0) ≡ t → (if t then Some (record { by = n; form = g }) else None) ≡ Some r → IsRest r x
      by false other is = absurd (cc)
      by true ok is =
          let divides : 2 ^ 32 % n ≡ 0 = eqb-true (2 ^ 32 % n) 0 ok in
          subst (λ s. IsRest s x) (let e : record { by = n; form = g } ≡ r = cc in e) (divides, at divides)

  rest-has : (v : KnownValue) (x : ℕ) → Has queues xs v x → HasRest (rest_of queues v) x
  rest-has (linear f) x has r is = whole-rest f x has r is
  rest-has (index_for i f) x has r is = index-rest i f x has r is
  rest-has (signed_for i f) x has r is = by (256 ^ (queues i).index_width % ((queues i).scale * (queues i).modulus) == 0) refl is
    where
      w : ℕ
      w = index_word (queues i) (form_value f xs)

      by : (t : Bool) → (256 ^ (queues i).index_width % ((queues i).scale * (queues i).modulus) == 0) ≡ t
          → (if t then index_rest (queues i) f else None) ≡ Some r → IsRest r x
      by false other is = absurd (cc)
      by true ok is =
          let rest = index-rest i f w refl r is in (
            rest.0,
            ap (λ y. y % r.by) has
                ∙ signed-rest (queues i).index_width r.by w rest.0
                (ap (λ n. 256 ^ (queues i).index_width % n) (index-by (queues i) f r is)
                ∙ eqb-true (256 ^ (queues i).index_width % ((queues i).scale * (queues i).modulus)) 0 ok)
                ∙ rest.1,
          )
  rest-has other x has r is = absurd (cc)

  negative-has : (o : Option Rest) (x : ℕ) → HasRest o x → HasRest (negative o) (x * (2 ^ 32 - 1))
  negative-has None x has r is = absurd (cc)
  negative-has (Some a) x has r is =
      let rest = has a refl in
      subst (λ s. IsRest s (x * (2 ^ 32 - 1))) (let e : record { by = a.by; form = times (2 ^ 32 - 1) a.form } ≡ r = cc in e) (
        rest.0,
        mod-product x (form_value a.form xs) (2 ^ 32 - 1) a.by rest.1 ∙ ap (λ y. y % a.by)
            (let turn : form_value a.form xs * (2 ^ 32 - 1) ≡ (2 ^ 32 - 1) * form_value a.form xs = mul_comm (form_value a.form xs) (2 ^ 32 - 1) in
            turn ∙ sym (value-times (2 ^ 32 - 1) a.form xs)),
      )

  added-has : (o p : Option Rest) (x y : ℕ) → HasRest o x → HasRest p y → HasRest (rests_added o p) ((x + y) % 2 ^ 32)
  added-has None p x y one two r is = absurd (cc)
  added-has (Some a) None x y one two r is = absurd (cc)
  added-has (Some a) (Some b) x y one two r is = by (a.by % b.by == 0) (b.by % a.by == 0) refl refl is
    where
      at : (n : ℕ) → 2 ^ 32 % n ≡ 0 → a.by % n ≡ 0 → b.by % n ≡ 0 → record { by = n; form = plus a.form b.form } ≡ r → IsRest r ((x + y) % 2 ^ 32)
      at n divides left right same = subst (λ s. IsRest s ((x + y) % 2 ^ 32)) same (
        divides,
        mod-mod_of_dvd n (x + y) (dvd_of_mod-eq-zero n divides)
            ∙ mod-sum x y (form_value a.form xs) (form_value b.form xs) n
            (coarser a.by n x (form_value a.form xs) left (one a refl).1) (coarser b.by n y (form_value b.form xs) right (two b refl).1)
            ∙ ap (λ z. z % n) (sym (value-plus a.form b.form xs)),
      )

      by : (s t : Bool) → (a.by % b.by == 0) ≡ s → (b.by % a.by == 0) ≡ t
          → (if s then Some (record { by = b.by; form = plus a.form b.form }) else
          (if t then Some (record { by = a.by; form = plus a.form b.form }) else None)) ≡ Some r → IsRest r ((x + y) % 2 ^ 32)
      by true t left right is = at b.by (two b refl).0 (eqb-true (a.by % b.by) 0 left) (mod_self b.by) (cc)
      by false true left right is = at a.by (one a refl).0 (mod_self a.by) (eqb-true (b.by % a.by) 0 right) (cc)
      by false false left right is = absurd (cc)

  -- x is what a result says, where the variable that comes with it is some number
  abbrev pub Gives : Result → ℕ → Type 0
  Gives r x = (y : ℕ) × (y ≤ r.most) × Has queues (y ∷ xs) r.value x

  pub just-gives : (v : KnownValue) (x : ℕ) → Has queues xs v x → Gives (just v) x
  just-gives v x has = (0, omega arith, has-lifted queues v x 0 xs has)

  pub exactly-gives : (n x : ℕ) → x ≡ n → Gives (exactly n) x
  exactly-gives n x is = just-gives (if nat_lt n (2 ^ 32) then linear (number n) else any) x (by (nat_lt n (2 ^ 32)) refl)
    where
      by : (t : Bool) → nat_lt n (2 ^ 32) ≡ t → Has queues xs (if t then linear (number n) else any) x
      by false large = tt
      by true small = is ∙ sym (ap (λ z. z % 2 ^ 32) (value-number n xs) ∙ mod-eq_of_lt (ltb-true n (2 ^ 32) small))

  up-to-gives : (n x : ℕ) → x ≤ n → Gives (any_up_to n) x
  up-to-gives n x le = by (nat_lt n (2 ^ 32)) refl
    where
      by : (t : Bool) → nat_lt n (2 ^ 32) ≡ t → Gives (if t then record { most = n; value = linear first_variable } else just any) x
      by false large = just-gives any x tt
      by true small =
          let low : n < 2 ^ 32 = ltb-true n (2 ^ 32) small in
          let less : x < 2 ^ 32 = omega (arith, le, low) in
          (x, le, sym (ap (λ z. z % 2 ^ 32) (value-first x xs) ∙ mod-eq_of_lt less))

  pub or-up-to-gives : (n x : ℕ) (v : KnownValue) → x ≤ n → Has queues xs v x → Gives (or_up_to n v) x
  or-up-to-gives n x any low has = up-to-gives n x low
  or-up-to-gives n x (linear f) low has = just-gives (linear f) x has
  or-up-to-gives n x (index_for i f) low has = just-gives (index_for i f) x has
  or-up-to-gives n x (signed_for i f) low has = just-gives (signed_for i f) x has
  or-up-to-gives n x (ends_as b f) low has = just-gives (ends_as b f) x has
  or-up-to-gives n x (has_bits m b) low has = just-gives (has_bits m b) x has

  else-gives : (a : Option ℕ) (r : Result) (x : ℕ) → ((n : ℕ) → a ≡ Some n → x ≡ n) → Gives r x → Gives (or_else a r) x
  else-gives None r x is gives = gives
  else-gives (Some n) r x is gives = exactly-gives n x (is n refl)

  flag-gives : (t : Option Bool) (b : Bool) → ((c : Bool) → t ≡ Some c → b ≡ c) → Gives (flag_of t) (flag b)
  flag-gives (Some c) b is = exactly-gives (flag c) (flag b) (ap flag (is c refl))
  flag-gives None b is = up-to-gives 1 (flag b) (low b)
    where
      low : (b : Bool) → flag b ≤ 1
      low true = omega arith
      low false = omega arith

  pub sum-has : (v w : KnownValue) (x y : ℕ) → Has queues xs v x → Has queues xs w y → Has queues xs (sum_of v w) ((x + y) % 2 ^ 32)
  sum-has (linear f) (linear g) x y one two = plus-value f g xs x y (2 ^ 32) one two
  sum-has other beside x y one two = tt

  xor-has : (v w : KnownValue) (x y : ℕ) → Has queues xs v x → Has queues xs w y → Has queues xs (xor_of v w) (bit_xor x y)
  xor-has (linear f) (linear g) x y one two = (
    xor_lt 32 x y (omega (arith, one)) (omega (arith, two)),
    alike-same 32 (bit_xor x y) (x + (2 ^ 32 - 1) * y) (form_value (plus f (times (2 ^ 32 - 1) g)) xs) (
        mod-sum x ((2 ^ 32 - 1) * y) (form_value f xs) (form_value (times (2 ^ 32 - 1) g) xs) (2 ^ 32)
        (ap (λ n. n % 2 ^ 32) one ∙ mod-mod (form_value f xs) (2 ^ 32))
        (ap (λ n. n % 2 ^ 32) (mul_comm (2 ^ 32 - 1) y) ∙ times-value (2 ^ 32 - 1) g xs y (2 ^ 32) two)
        ∙ ap (λ n. n % 2 ^ 32) (sym (value-plus f (times (2 ^ 32 - 1) g) xs))) (xor-alike x y),
  )
  xor-has other beside x y one two = tt

  or-has : (v w : KnownValue) (x y : ℕ) → Has queues xs v x → Has queues xs w y → Has queues xs (or_of v w) (bit_or x y)
  or-has v w x y one two = by (bits_of v) (bits_of w) (λ k is. bits-have queues xs v x k is one) (λ k is. bits-have queues xs w y k is two)
    where
      by : (a b : Option Bits) → ((k : Bits) → a ≡ Some k → (x < 2 ^ 32) × (bit_and x k.mask ≡ k.bits))
          → ((k : Bits) → b ≡ Some k → (y < 2 ^ 32) × (bit_and y k.mask ≡ k.bits)) → Has queues xs (either_bits a b) (bit_or x y)
      by None b of-x of-y = tt
      by (Some a) None of-x of-y = tt
      by (Some a) (Some b) of-x of-y = of-bits-has queues xs (bit_or (bit_and a.mask b.mask) (bit_or a.bits b.bits)) (bit_or a.bits b.bits) (bit_or x y)
          (or_lt 32 x y (of-x a refl).0 (of-y b refl).0) (or-bits x y a.mask b.mask a.bits b.bits (of-x a refl).1 (of-y b refl).1)

  -- bits under a mask
  pub kept-has : (m b x mask : ℕ) → Has queues xs (has_bits m b) x
      → Has queues xs (has_bits (bit_or m (bit_xor mask (2 ^ 32 - 1))) (bit_and b mask)) (bit_and x mask)
  kept-has m b x mask has = (
    (let less : bit_and x mask ≤ x = and_le_l x mask in omega (arith, less, has.0)),
    kept-bits x m mask has.0 ∙ ap (λ y. bit_and y mask) has.1,
  )

  kept-gives : (m b x mask : ℕ) (other : Result) → Has queues xs (has_bits m b) x → Gives other (bit_and x mask)
      → Gives (kept_bits m b mask other) (bit_and x mask)
  kept-gives m b x mask other has gives = by (nat_le mask 65535 && (mask + 1 == 2 ^ count_ones mask) && (bit_and m mask == 0))
    where
      by : (t : Bool) → Gives (if t then other else just (of_bits (bit_or m (bit_xor mask (2 ^ 32 - 1))) (bit_and b mask))) (bit_and x mask)
      by true = gives
      by false = let kept = kept-has m b x mask has in
          just-gives (of_bits (bit_or m (bit_xor mask (2 ^ 32 - 1))) (bit_and b mask)) (bit_and x mask)
          (of-bits-has queues xs (bit_or m (bit_xor mask (2 ^ 32 - 1))) (bit_and b mask) (bit_and x mask) kept.0 kept.1)

  ending-in : (v : KnownValue) (x mask : ℕ) (other : Result) → Has queues xs v x → Gives other (bit_and x mask)
      → Gives (ending_in v mask other) (bit_and x mask)
  ending-in any x mask other has gives = gives
  ending-in (linear f) x mask other has gives = gives
  ending-in (index_for i f) x mask other has gives = gives
  ending-in (signed_for i f) x mask other has gives = gives
  ending-in (has_bits m b) x mask other has gives = kept-gives m b x mask other has gives
  ending-in (ends_as n f) x mask other has gives = by ((mask + 1 == 2 ^ count_ones mask) && nat_le (count_ones mask) n) refl
    where
      k : ℕ
      k = count_ones mask

      by : (t : Bool) → ((mask + 1 == 2 ^ count_ones mask) && nat_le (count_ones mask) n) ≡ t
          → Gives (if t then just (ends_as (count_ones mask) f) else other) (bit_and x mask)
      by false part = gives
      by true ok =
          let p = and_parts (mask + 1 == 2 ^ count_ones mask) (nat_le (count_ones mask) n) ok in
          let power : mask + 1 ≡ 2 ^ k = eqb-true (mask + 1) (2 ^ count_ones mask) p.0 in
          let ones : mask ≡ 2 ^ k - 1 = omega (arith, power) in
          just-gives (ends_as k f) (bit_and x mask)
          (subst (Has queues xs (ends_as k f)) (sym (ap (bit_and x) ones ∙ and_mask x k))
          (mod-lt x (pow_pos k), alike-low n k x (form_value f xs) (leb-true (count_ones mask) n p.1) has.1))

  ending-by : (v : KnownValue) (x : ℕ) (b : Option ℕ) (y : ℕ) (r : Result) → Has queues xs v x → ((m : ℕ) → b ≡ Some m → y ≡ m)
      → Gives r (bit_and x y) → Gives (ending_by v b r) (bit_and x y)
  ending-by v x None y r has is gives = gives
  ending-by v x (Some m) y r has is gives = subst (λ z. Gives (ending_in v m r) (bit_and x z)) (sym (is m refl))
      (ending-in v x m r has (subst (λ z. Gives r (bit_and x z)) (is m refl) gives))

  rest-gives : (o : Option Rest) (x : ℕ) → x < 2 ^ 32 → HasRest o x → Gives (of_rest o) x
  rest-gives None x small has = just-gives any x tt
  rest-gives (Some r) x small has = (d / r.by, below, sym (ap (λ y. y % 2 ^ 32) value ∙ level))
    where
      rest : IsRest r x
      rest = has r refl

      f : ℕ
      f = form_value r.form xs

      d : ℕ
      d = (x + (2 ^ 32 - f % 2 ^ 32)) % 2 ^ 32

      level : (f + d) % 2 ^ 32 ≡ x
      level = omega (arith, small)

      some : 1 ≤ r.by
      some = some-divisor r.by rest.0

      none : d % r.by ≡ 0
      none = sym (add-mul-mod_self_left d r.by f)
          ∙ ap (λ y. y % r.by) (let e : (1 + (r.by - 1)) * f ≡ 1 * f + (r.by - 1) * f = add-mul 1 (r.by - 1) f in
          let all : r.by * f ≡ (1 + (r.by - 1)) * f = ap (λ y. y * f) (let one : r.by ≡ 1 + (r.by - 1) = omega (arith, some) in one) in
          let turned : d + r.by * f ≡ f + d + (r.by - 1) * f = omega (arith, e, all) in turned)
          ∙ (taken-away r.by (f + d) f some).1 (coarser (2 ^ 32) r.by (f + d) x rest.0 (level ∙ sym (mod-eq_of_lt small)) ∙ rest.1)

      times-by : r.by * (d / r.by) ≡ d
      times-by = let parts : d % r.by + r.by * (d / r.by) ≡ d = mod-add-div d r.by in omega (arith, parts, none)

      below : d / r.by ≤ 2 ^ 32 / r.by - 1
      below = elim (cases_lt (d / r.by) (2 ^ 32 / r.by)) [
        | inl less ↦ omega (arith, less)
        | inr more ↦ absurd (
            let parts : 2 ^ 32 % r.by + r.by * (2 ^ 32 / r.by) ≡ 2 ^ 32 = mod-add-div (2 ^ 32) r.by in
            let up : r.by * (2 ^ 32 / r.by) ≤ r.by * (d / r.by) = mul-le r.by (2 ^ 32 / r.by) r.by (d / r.by) (omega arith) more in
            let under : d < 2 ^ 32 = omega arith in
            let none : 2 ^ 32 % r.by ≡ 0 = rest.0 in
            omega (arith, parts, up, under, times-by, none))
      ]

      value : form_value (plus (lifted r.form) (times r.by first_variable)) (d / r.by ∷ xs) ≡ f + d
      value = value-plus (lifted r.form) (times r.by first_variable) (d / r.by ∷ xs)
          ∙ ap (λ y. y + form_value (times r.by first_variable) (d / r.by ∷ xs)) (value-lifted r.form (d / r.by) xs)
          ∙ ap (λ y. f + y) (value-times r.by first_variable (d / r.by ∷ xs) ∙ ap (λ y. r.by * y) (value-first (d / r.by) xs) ∙ times-by)

  sum-gives : (o p : Option Rest) (x y : ℕ) → HasRest o x → HasRest p y → Gives (of_rest (rests_added o p)) ((x + y) % 2 ^ 32)
  sum-gives o p x y one two = rest-gives (rests_added o p) ((x + y) % 2 ^ 32) (omega arith) (added-has o p x y one two)

  turned-gives : (v : KnownValue) (x mask : ℕ) → Has queues xs v x → Gives (turned v mask) (bit_xor x mask)
  turned-gives (linear f) x mask has = by (mask == 2 ^ 32 - 1) refl
    where
      g : Form
      g = plus (number (2 ^ 32 - 1)) (times (2 ^ 32 - 1) f)

      by : (t : Bool) → (mask == 2 ^ 32 - 1) ≡ t → Gives (just (if t then linear g else any)) (bit_xor x mask)
      by false other = just-gives any (bit_xor x mask) tt
      by true is = just-gives (linear g) (bit_xor x mask) (
          let small : x < 2 ^ 32 = omega (arith, has) in
          let value : form_value g xs ≡ 2 ^ 32 - 1 + (2 ^ 32 - 1) * form_value f xs = value-plus (number (2 ^ 32 - 1)) (times (2 ^ 32 - 1) f) xs
          ∙ ap (λ y. y + form_value (times (2 ^ 32 - 1) f) xs) (value-number (2 ^ 32 - 1) xs)
          ∙ ap (λ y. 2 ^ 32 - 1 + y) (value-times (2 ^ 32 - 1) f xs) in
          let bits : bit_xor x mask ≡ 2 ^ 32 - 1 - x = ap (bit_xor x) (eqb-true mask (2 ^ 32 - 1) is) ∙ turned-bits x small in
          omega (arith, bits, has, value))
  turned-gives other x mask has = just-gives any (bit_xor x mask) tt

  times-gives : (k : ℕ) (o : Option Rest) (x : ℕ) → HasRest o x → Gives (result_by (times k) (of_rest o)) ((x * k) % 2 ^ 32)
  times-gives k None x has = (0, omega arith, tt)
  times-gives k (Some r) x has = (
    gives.0,
    gives.1,
    sym (mul-mod_first x k (2 ^ 32)) ∙ times-value k (plus (lifted r.form) (times r.by first_variable)) (gives.0 ∷ xs) (x % 2 ^ 32) (2 ^ 32) gives.2,
  )
    where
      gives : Gives (of_rest (Some r)) (x % 2 ^ 32)
      gives = rest-gives (Some r) (x % 2 ^ 32) (omega arith) (λ s is. (let rest = has s is in
          (rest.0, mod-mod_of_dvd s.by x (dvd_of_mod-eq-zero s.by rest.0) ∙ rest.1)))

  shifted-left : (v : KnownValue) (x amount : ℕ) → Has queues xs v x → Gives (shifted_left queues v amount) ((x * 2 ^ amount) % 2 ^ 32)
  shifted-left any x amount has = times-gives (2 ^ amount) None x (λ r is. absurd (cc))
  shifted-left (ends_as n f) x amount has = times-gives (2 ^ amount) None x (λ r is. absurd (cc))
  shifted-left (has_bits m b) x amount has = just-gives (of_bits (bit_or ((m * 2 ^ amount) % 2 ^ 32) (2 ^ amount - 1)) ((b * 2 ^ amount) % 2 ^ 32))
      ((x * 2 ^ amount) % 2 ^ 32) (of-bits-has queues xs (bit_or ((m * 2 ^ amount) % 2 ^ 32) (2 ^ amount - 1)) ((b * 2 ^ amount) % 2 ^ 32)
      ((x * 2 ^ amount) % 2 ^ 32) (mod-lt (x * 2 ^ amount) (omega arith)) (shl-bits x m b amount has.1))
  shifted-left (index_for i f) x amount has = times-gives (2 ^ amount) (rest_of queues (index_for i f)) x (rest-has (index_for i f) x has)
  shifted-left (signed_for i f) x amount has = times-gives (2 ^ amount) (rest_of queues (signed_for i f)) x (rest-has (signed_for i f) x has)
  shifted-left (linear f) x amount has = just-gives (linear (times (2 ^ amount) f)) ((x * 2 ^ amount) % 2 ^ 32) (times-value (2 ^ amount) f xs x (2 ^ 32) has)

  counting-is : (N n i : ℕ) → counting queues N n ≡ Some i → is_count (queues i) n ≡ true
  counting-is zero n i is = absurd (cc)
  counting-is (suc k) n i is = by (counting-is k n i) (is_count (queues k) n) refl is
    where
      by : (counting queues k n ≡ Some i → is_count (queues i) n ≡ true) → (t : Bool) → is_count (queues k) n ≡ t
          → (if t then Some k else counting queues k n) ≡ Some i → is_count (queues i) n ≡ true
      by rest true count is = ap (λ j. is_count (queues j) n) (sym (let e : k ≡ i = cc in e)) ∙ count
      by rest false other is = rest is

  -- a remainder by n as a word of an index that counts on in n words
  pub counted-has : (N n : ℕ) (f : Form) (x i : ℕ) → 1 ≤ n → x ≡ form_value f xs % n → counting queues N n ≡ Some i
      → Has queues xs (index_for i (plus f (number (n - (queues i).offset % n)))) x
  counted-has N n f x i some is at =
      let p2 = and_parts (((queues i).base == 0) && ((queues i).scale == 1)) ((queues i).modulus == n) (counting-is N n i at) in
      let p1 = and_parts ((queues i).base == 0) ((queues i).scale == 1) p2.0 in
      let base : (queues i).base ≡ 0 = eqb-true (queues i).base 0 p1.0 in
      let scale : (queues i).scale ≡ 1 = eqb-true (queues i).scale 1 p1.1 in
      let modulus : (queues i).modulus ≡ n = eqb-true (queues i).modulus n p2.1 in
      let g = plus f (number (n - (queues i).offset % n)) in
      let value : form_value g xs ≡ form_value f xs + (n - (queues i).offset % n) =
      value-plus f (number (n - (queues i).offset % n)) xs
      ∙ ap (λ y. form_value f xs + y) (value-number (n - (queues i).offset % n) xs) in
      let turned : form_value g xs + (queues i).offset ≡ form_value f xs + (queues i).offset + (n - (queues i).offset % n) = omega (arith, value) in
      let count : (form_value g xs + (queues i).offset) % (queues i).modulus ≡ x =
      ap (λ m. (form_value g xs + (queues i).offset) % m) modulus ∙ ap (λ y. y % n) turned
      ∙ round-up n (form_value f xs) (queues i).offset some ∙ sym is in
      sym (ap (λ b. b + (queues i).scale * ((form_value g xs + (queues i).offset) % (queues i).modulus)) base
      ∙ ap (λ s. 0 + s * ((form_value g xs + (queues i).offset) % (queues i).modulus)) scale
      ∙ ap (λ y. 0 + 1 * y) count ∙ (let e : 0 + 1 * x ≡ x = omega arith in e))

  rest-counted-gives : (N n : ℕ) (f : Form) (x : ℕ) (other : Result) → 1 ≤ n → x ≡ form_value f xs % n → Gives other x
      → (o : Option ℕ) → counting queues N n ≡ o → Gives (rest_counted queues n f o other) x
  rest-counted-gives N n f x other some is gives None none = gives
  rest-counted-gives N n f x other some is gives (Some i) at =
      just-gives (index_for i (plus f (number (n - (queues i).offset % n)))) x (counted-has N n f x i some is at)

  shifted-right : (b : Option Bounds) (x amount : ℕ) → ((c : Bounds) → b ≡ Some c → x ≤ c.high) → Gives (shifted_right b amount) (x / 2 ^ amount)
  shifted-right None x amount below = just-gives any (x / 2 ^ amount) tt
  shifted-right (Some b) x amount below =
      let low : x / 2 ^ amount * 2 ^ amount ≤ x = div-mul-le_self x (2 ^ amount) in
      let high : x ≤ b.high = below b refl in
      up-to-gives (b.high / 2 ^ amount) (x / 2 ^ amount) (le-div (x / 2 ^ amount) b.high (2 ^ amount) (pow_pos amount) (omega (arith, low, high)))

  below-is : (a b : Option Bounds) (x y : ℕ) → ((c : Bounds) → a ≡ Some c → (c.low ≤ x) × (x ≤ c.high))
      → ((c : Bounds) → b ≡ Some c → (c.low ≤ y) × (y ≤ c.high))
      → (t : Bool) → is_below a b ≡ Some t → nat_lt x y ≡ t
  below-is None b x y one two t is = absurd (cc)
  below-is (Some a) None x y one two t is = absurd (cc)
  below-is (Some a) (Some b) x y one two t is = by (nat_lt a.high b.low) (nat_le b.high a.low) refl refl is
    where
      by : (r s : Bool) → nat_lt a.high b.low ≡ r → nat_le b.high a.low ≡ s
          → (if r then Some true else (if s then Some false else None)) ≡ Some t → nat_lt x y ≡ t
      by true s less more is =
          let u : a.high < b.low = ltb-true a.high b.low less in let p = one a refl in let o = two b refl in
          lt-ltb x y (omega (arith, u, p.1, o.0)) ∙ (let e : true ≡ t = cc in e)
      by false true less more is =
          let u : b.high ≤ a.low = leb-true b.high a.low more in let p = one a refl in let o = two b refl in
          le-ltb x y (omega (arith, u, p.0, o.1)) ∙ (let e : false ≡ t = cc in e)
      by false false less more is = absurd (cc)

  signed-order : (x y : ℕ) → x < 2 ^ 31 → y < 2 ^ 31 → int_lt (signed x) (signed y) ≡ nat_lt x y
  signed-order x y one two = ap (λ z. int_lt z (signed y)) (signed-small x one) ∙ ap (int_lt (pos x)) (signed-small y two)

  below-signed : (a b : Option Bounds) (x y : ℕ) → ((c : Bounds) → a ≡ Some c → (c.low ≤ x) × (x ≤ c.high))
      → ((c : Bounds) → b ≡ Some c → (c.low ≤ y) × (y ≤ c.high))
      → (t : Bool) → is_below_signed a b ≡ Some t → int_lt (signed x) (signed y) ≡ t
  below-signed None b x y one two t is = absurd (cc)
  below-signed (Some a) None x y one two t is = absurd (cc)
  below-signed (Some a) (Some b) x y one two t is = by (nat_lt a.high (2 ^ 31) && nat_lt b.high (2 ^ 31)) refl is
    where
      by : (r : Bool) → (nat_lt a.high (2 ^ 31) && nat_lt b.high (2 ^ 31)) ≡ r
          → (if r then is_below (Some a) (Some b) else None) ≡ Some t → int_lt (signed x) (signed y) ≡ t
      by false large is = absurd (cc)
      by true small is =
          let parts = and_parts (nat_lt a.high (2 ^ 31)) (nat_lt b.high (2 ^ 31)) small in
          let u : a.high < 2 ^ 31 = ltb-true a.high (2 ^ 31) parts.0 in let w : b.high < 2 ^ 31 = ltb-true b.high (2 ^ 31) parts.1 in
          let p = one a refl in let r = two b refl in
          signed-order x y (omega (arith, u, p.1)) (omega (arith, w, r.1)) ∙ below-is (Some a) (Some b) x y one two t is

  set-less : (b : Option Bounds) (x : ℕ) (n : ℤ) → ((c : Bounds) → b ≡ Some c → (c.low ≤ x) × (x ≤ c.high)) → Gives (set_less b n) (flag (int_lt (signed x) n))
  set-less b x (negsuc n) one = flag-gives None (int_lt (signed x) (negsuc n)) (λ c is. absurd (cc))
  set-less b x (pos n) one = by (nat_lt n (2 ^ 31)) refl
    where
      by : (t : Bool) → nat_lt n (2 ^ 31) ≡ t
          → Gives (if t then flag_of (is_below_signed b (Some (record { low = n; high = n }))) else any_up_to 1)
          (flag (int_lt (signed x) (pos n)))
      by false large = flag-gives None (int_lt (signed x) (pos n)) (λ c is. absurd (cc))
      by true small = flag-gives (is_below_signed b (Some (record { low = n; high = n }))) (int_lt (signed x) (pos n)) (λ c is.
          ap (int_lt (signed x)) (sym (signed-small n (ltb-true n (2 ^ 31) small)))
          ∙ below-signed b (Some (record { low = n; high = n })) x n one
          (λ d of. (let e : record { low = n; high = n } ≡ d = cc in
          subst (λ z. (z.low ≤ n) × (n ≤ z.high)) e (omega arith, omega arith))) c is)

  module _ (rs : List (Option ℕ)) (ranges : InRanges rs xs) where
    in-bounds : (v : KnownValue) (x : ℕ) → Has queues xs v x → (c : Bounds) → bounds rs v ≡ Some c → (c.low ≤ x) × (x ≤ c.high)
    in-bounds v x has c is = has-bounds queues rs xs v x c ranges is has

    number-is : (f : ℕ → ℕ) (v : KnownValue) (x : ℕ) → Has queues xs v x → (n : ℕ) → number_and f (as_number v) ≡ Some n → f x ≡ n
    number-is f v x has n is = by (as_number v) refl is
      where
        by : (k : Option ℕ) → as_number v ≡ k → number_and f k ≡ Some n → f x ≡ n
        by None of is = absurd (cc)
        by (Some a) of is = ap f (known-is queues xs v x a of has) ∙ (let e : f a ≡ n = cc in e)

    both-are : (f : ℕ → ℕ → ℕ) (v w : KnownValue) (x y : ℕ) → Has queues xs v x → Has queues xs w y → (n : ℕ)
        → both f (as_number v) (as_number w) ≡ Some n → f x y ≡ n
    both-are f v w x y one two n is = by (as_number v) (as_number w) refl refl is
      where
        by : (k l : Option ℕ) → as_number v ≡ k → as_number w ≡ l → both f k l ≡ Some n → f x y ≡ n
        by None l vk wl is = absurd (cc)
        by (Some a) None vk wl is = absurd (cc)
        by (Some a) (Some b) vk wl is = ap (λ z. f z y) (known-is queues xs v x a vk one)
            ∙ ap (f a) (known-is queues xs w y b wl two) ∙ (let e : f a b ≡ n = cc in e)

    pub word-has : (n : ℤ) → Has queues xs (linear (number (word n))) (word n)
    word-has n = sym (ap (λ z. z % 2 ^ 32) (value-number (word n) xs) ∙ mod-eq_of_lt (word-small n))

    remaining-gives : (N n : ℕ) (f : Form) (x : ℕ) (other : Result) → 1 ≤ n → n ≤ 2 ^ 32 → x ≡ form_value f xs % n → Gives other x
        → (o : Option Form) → remainder_word rs f n ≡ o → Gives (remaining queues N rs n f o other) x
    remaining-gives N n f x other some small is gives (Some g) word = just-gives (linear g) x (is ∙ value-word rs f n g xs ranges small word)
    remaining-gives N n f x other some small is gives None word = by (most rs f)
      where
        by : (m : Option ℕ) → Gives (if_unbounded m (rest_counted queues n f (counting queues N n) other) other) x
        by None = rest-counted-gives N n f x other some is gives (counting queues N n) refl
        by (Some m) = gives

    multiple-gives : (n : ℕ) (f : Form) (m x : ℕ) (other : Result) → m ≤ 2 ^ 32 → x < 2 ^ 32 → x ≡ form_value f xs % m * n → Gives other x
        → (o : Option Form) → remainder_word rs f m ≡ o → Gives (multiple_or n o other) x
    multiple-gives n f m x other small low is gives None word = gives
    multiple-gives n f m x other small low is gives (Some g) word = just-gives (linear (times n g)) x
        (sym (mod-eq_of_lt low) ∙ ap (λ y. y % 2 ^ 32) is
        ∙ times-value n g xs (form_value f xs % m) (2 ^ 32) (value-word rs f m g xs ranges small word))

    row-gives : (r : Rest) (x mask k : ℕ) → IsRest r x → Gives (masked_row rs r mask (2 ^ k)) (bit_and x mask)
    row-gives r x mask k rest = by ((mask + low == low * n) && (r.by % (mask + low) == 0) && is_same 0 f (times low g)) refl
      where
        low : ℕ
        low = 2 ^ k

        n : ℕ
        n = 2 ^ count_ones mask

        f : Form
        f = r.form

        g : Form
        g = without rs (2 ^ k) r.form

        up-to : Gives (any_up_to mask) (bit_and x mask)
        up-to = up-to-gives mask (bit_and x mask) (and_le_r x mask)

        at : (mask + low == low * n) ≡ true → (r.by % (mask + low) == 0) ≡ true → is_same 0 f (times low g) ≡ true
            → Gives (multiple_or low (remainder_word rs g n) (any_up_to mask)) (bit_and x mask)
        at row dvd same =
            let one : 1 ≤ n = pow_pos (count_ones mask) in
            let some : 1 ≤ low = pow_pos k in
            let whole : mask + low ≡ low * n = eqb-true (mask + low) (low * n) row in
            let fine : r.by % (low * n) ≡ 0 = ap (λ y. r.by % y) (sym whole) ∙ eqb-true (r.by % (mask + low)) 0 dvd in
            let divides : 2 ^ 32 % (low * n) ≡ 0 = coarser r.by (low * n) (2 ^ 32) 0 fine (rest.0 ∙ sym (zero-mod r.by)) ∙ zero-mod (low * n) in
            let words : low * n ≤ 2 ^ 32 = divisor-below (low * n) divides in
            let few : n ≤ low * n = (let e : 1 * n ≤ low * n = mul-le 1 n low n some (omega arith) in omega (arith, e)) in
            let ones : mask ≡ (n - 1) * low =
            (let e : low * (1 + (n - 1)) ≡ low * 1 + low * (n - 1) = mul-add low 1 (n - 1) in
            let f : n ≡ 1 + (n - 1) = omega (arith, one) in
            let h : low * n ≡ low * (1 + (n - 1)) = ap (λ y. low * y) f in
            let t : low * (n - 1) ≡ (n - 1) * low = mul_comm low (n - 1) in omega (arith, whole, e, h, t)) in
            let value : form_value f xs ≡ low * form_value g xs = same-exactly f (times low g) xs same ∙ value-times low g xs in
            let rest : x % (low * n) ≡ low * (form_value g xs % n) =
            coarser r.by (low * n) x (form_value f xs) fine rest.1 ∙ ap (λ y. y % (low * n)) value
            ∙ sym (scaled-mod (low * n) low n (form_value g xs) (omega (arith, few, one)) refl) in
            let part : x / low % n ≡ form_value g xs % n =
            sym (field_of x (count_ones mask) k)
            ∙ ap (λ y. x % y / low)
            (pow-add 2 (count_ones mask) k ∙ (let t : n * low ≡ low * n = mul_comm n low in t))
            ∙ ap (λ y. y / low) rest ∙ mul-div_cancel_left (form_value g xs % n) some in
            let bits : bit_and x mask ≡ form_value g xs % n * low =
            ap (bit_and x) ones ∙ row-bits x k (count_ones mask) ∙ ap (λ y. y * low) part in
            let le : bit_and x mask ≤ mask = and_le_r x mask in
            multiple-gives low g n (bit_and x mask) (any_up_to mask) (omega (arith, few, words)) (omega (arith, le, whole, words, some)) bits up-to
            (remainder_word rs g n) refl

        by : (t : Bool) → ((mask + low == low * n) && (r.by % (mask + low) == 0) && is_same 0 f (times low g)) ≡ t
            → Gives (if t then multiple_or low (remainder_word rs g n) (any_up_to mask) else any_up_to mask) (bit_and x mask)
        by false other = up-to
        by true ok =
            let p2 = and_parts ((mask + low == low * n) && (r.by % (mask + low) == 0)) (is_same 0 f (times low g)) ok in
            let p1 = and_parts (mask + low == low * n) (r.by % (mask + low) == 0) p2.0 in at p1.0 p1.1 p2.1

    masked-gives : (N : ℕ) (o : Option Rest) (x mask : ℕ) → HasRest o x → Gives (masked queues N rs o mask) (bit_and x mask)
    masked-gives N None x mask has = up-to-gives mask (bit_and x mask) (and_le_r x mask)
    masked-gives N (Some r) x mask has = by ((mask + 1 == 2 ^ count_ones mask) && (r.by % (mask + 1) == 0)) refl
      where
        f : Form
        f = r.form

        at : (mask + 1 == 2 ^ count_ones mask) ≡ true → (r.by % (mask + 1) == 0) ≡ true
            → Gives (remaining queues N rs (mask + 1) f (remainder_word rs f (mask + 1)) (any_up_to mask)) (bit_and x mask)
        at pow dvd =
            let power : mask + 1 ≡ 2 ^ count_ones mask = eqb-true (mask + 1) (2 ^ count_ones mask) pow in
            let ones : mask ≡ 2 ^ count_ones mask - 1 = omega (arith, power) in
            let fine : r.by % (mask + 1) ≡ 0 = eqb-true (r.by % (mask + 1)) 0 dvd in
            let divides : 2 ^ 32 % (mask + 1) ≡ 0 =
            coarser r.by (mask + 1) (2 ^ 32) 0 fine ((has r refl).0 ∙ sym (zero-mod r.by)) ∙ zero-mod (mask + 1) in
            remaining-gives N (mask + 1) f (bit_and x mask) (any_up_to mask) (omega arith) (divisor-below (mask + 1) divides)
            (ap (bit_and x) ones ∙ and_mask x (count_ones mask) ∙ ap (λ m. x % m) (sym power)
            ∙ coarser r.by (mask + 1) x (form_value f xs) fine (has r refl).1)
            (up-to-gives mask (bit_and x mask) (and_le_r x mask)) (remainder_word rs f (mask + 1)) refl

        by : (t : Bool) → ((mask + 1 == 2 ^ count_ones mask) && (r.by % (mask + 1) == 0)) ≡ t
            → Gives (if t then remaining queues N rs (mask + 1) f (remainder_word rs f (mask + 1)) (any_up_to mask)
            else masked_row rs r mask (2 ^ trailing_zeros w32 mask)) (bit_and x mask)
        by false other = row-gives r x mask (trailing_zeros w32 mask) (has r refl)
        by true ok = let parts = and_parts (mask + 1 == 2 ^ count_ones mask) (r.by % (mask + 1) == 0) ok in
            at parts.0 parts.1

    masked-by : (N : ℕ) (o : Option Rest) (x : ℕ) (b : Option ℕ) (y : ℕ) (r : Result) → HasRest o x → ((m : ℕ) → b ≡ Some m → y ≡ m)
        → Gives r (bit_and x y) → Gives (masked_by queues N rs o b r) (bit_and x y)
    masked-by N o x None y r has is gives = gives
    masked-by N o x (Some m) y r has is gives = subst (λ z. Gives (masked queues N rs o m) (bit_and x z)) (sym (is m refl)) (masked-gives N o x m has)

    shifted-back : (N : ℕ) (v : KnownValue) (x amount : ℕ) → Has queues xs v x → Gives (shifted_back queues N rs v amount) (x / 2 ^ amount)
    shifted-back N (has_bits m b) x amount has = just-gives (of_bits (bit_or (m / 2 ^ amount) (2 ^ 32 - 2 ^ (32 - amount))) (b / 2 ^ amount))
        (x / 2 ^ amount) (of-bits-has queues xs (bit_or (m / 2 ^ amount) (2 ^ 32 - 2 ^ (32 - amount))) (b / 2 ^ amount) (x / 2 ^ amount)
        (let less : x / 2 ^ amount ≤ x = shr_le x amount in omega (arith, less, has.0)) (shr-bits x m b amount has.0 has.1))
    shifted-back N (linear f) x amount has = by (nat_le amount 32 && is_same 0 f (times (2 ^ amount) (without rs (2 ^ amount) f))) refl
      where
        bounded : Gives (shifted_right (bounds_of (2 ^ 32) rs f) amount) (x / 2 ^ amount)
        bounded = shifted-right (bounds_of (2 ^ 32) rs f) x amount (λ c is. (in-bounds (linear f) x has c is).1)

        at : (g : Form) → amount ≤ 32 → form_value f xs ≡ 2 ^ amount * form_value g xs
            → Gives (remaining queues N rs (2 ^ (32 - amount)) g (remainder_word rs g (2 ^ (32 - amount)))
            (shifted_right (bounds_of (2 ^ 32) rs f) amount)) (x / 2 ^ amount)
        at g low multiple =
            let parts : 2 ^ amount * 2 ^ (32 - amount) ≡ 2 ^ 32 =
            sym (pow-add 2 amount (32 - amount)) ∙ ap (λ n. 2 ^ n) (let e : amount + (32 - amount) ≡ 32 = omega (arith, low) in e) in
            let less : 2 ^ (32 - amount) ≤ 2 ^ 32 = pow-le-pow_right {n = 2} (omega arith) {i = 32 - amount} {j = 32} (omega arith) in
            let word : x ≡ 2 ^ amount * (form_value g xs % 2 ^ (32 - amount)) =
            has ∙ ap (λ n. n % 2 ^ 32) multiple ∙ sym (scaled-mod (2 ^ 32) (2 ^ amount) (2 ^ (32 - amount)) (form_value g xs) (omega arith) parts) in
            remaining-gives N (2 ^ (32 - amount)) g (x / 2 ^ amount) (shifted_right (bounds_of (2 ^ 32) rs f) amount) (pow_pos (32 - amount)) less
            (ap (λ n. n / 2 ^ amount) word ∙ mul-div_cancel_left (form_value g xs % 2 ^ (32 - amount)) (pow_pos amount))
            bounded (remainder_word rs g (2 ^ (32 - amount))) refl

        by : (t : Bool) → (nat_le amount 32 && is_same 0 f (times (2 ^ amount) (without rs (2 ^ amount) f))) ≡ t
            → Gives (if t then remaining queues N rs (2 ^ (32 - amount)) (without rs (2 ^ amount) f)
            (remainder_word rs (without rs (2 ^ amount) f) (2 ^ (32 - amount))) (shifted_right (bounds_of (2 ^ 32) rs f) amount)
            else shifted_right (bounds_of (2 ^ 32) rs f) amount) (x / 2 ^ amount)
        by false other = bounded
        by true ok =
            let p = and_parts (nat_le amount 32) (is_same 0 f (times (2 ^ amount) (without rs (2 ^ amount) f))) ok in
            at (without rs (2 ^ amount) f) (leb-true amount 32 p.0)
            (same-exactly f (times (2 ^ amount) (without rs (2 ^ amount) f)) xs p.1 ∙ value-times (2 ^ amount) (without rs (2 ^ amount) f) xs)
    shifted-back N other x amount has = just-gives any (x / 2 ^ amount) tt

    shifted-with-sign : (v : KnownValue) (x amount : ℕ) → Has queues xs v x → Gives (shifted_with_sign v amount) (shifted shift.RightArithmetic x amount)
    shifted-with-sign (has_bits m b) x amount has = by (nat_lt m (2 ^ 32) && nat_lt amount 32) refl
      where
        s : ℕ → ℕ
        s y = shifted shift.RightArithmetic y amount

        at : m < 2 ^ 32 → amount < 32 → bit_and (s x) (s m) ≡ s b
        at small few =
            let low : amount ≤ 31 = omega (arith, few) in
            let least : b < 2 ^ 32 = (let le : bit_and x m ≤ x = and_le_l x m in omega (arith, le, has.0, has.1)) in
            ap (λ z. bit_and z (s m)) (shifted-signed x amount has.0 low) ∙ ap (bit_and _) (shifted-signed m amount small low)
            ∙ sar-bits x m b amount has.0 small low has.1 ∙ sym (shifted-signed b amount least low)

        by : (t : Bool) → (nat_lt m (2 ^ 32) && nat_lt amount 32) ≡ t
            → Gives (if t then just (of_bits (s m) (s b)) else just any) (s x)
        by false other = just-gives any (s x) tt
        by true ok = let parts = and_parts (nat_lt m (2 ^ 32)) (nat_lt amount 32) ok in
            just-gives (of_bits (s m) (s b)) (s x) (of-bits-has queues xs (s m) (s b) (s x) (word-small (shifted_down (signed x) amount))
            (at (ltb-true m (2 ^ 32) parts.0) (ltb-true amount 32 parts.1)))
    shifted-with-sign other x amount has = just-gives any (shifted shift.RightArithmetic x amount) tt

    immediate-part : (N : ℕ) (op : ImmediateOp) (v : KnownValue) (x : ℕ) (n : ℤ) → Has queues xs v x
        → Gives (immediate_part queues N rs op v n) (with_immediate op x n)
    immediate-part N immediate.Add v x n has = subst (Gives (of_rest (rests_added (rest_of queues v) (whole (number (word n)))))) (sym (word-of-sum x n))
        (sum-gives (rest_of queues v) (whole (number (word n))) x (word n) (rest-has v x has) (whole-rest (number (word n)) (word n) (word-has n)))
    immediate-part N immediate.And v x n has = ending-in v x (word n) (masked queues N rs (rest_of queues v) (word n)) has
        (masked-gives N (rest_of queues v) x (word n) (rest-has v x has))
    immediate-part N immediate.SetLess v x n has = set-less (bounds rs v) x n (in-bounds v x has)
    immediate-part N immediate.SetLessUnsigned v x n has = flag-gives (is_below (bounds rs v) (bounds rs (linear (number (word n))))) (nat_lt x (word n))
        (below-is (bounds rs v) (bounds rs (linear (number (word n)))) x (word n) (in-bounds v x has)
        (in-bounds (linear (number (word n))) (word n) (word-has n)))
    immediate-part N immediate.Xor v x n has = turned-gives v x (word n) has
    immediate-part N immediate.Or v x n has = just-gives (or_of v (linear (number (word n)))) (with_immediate immediate.Or x n)
        (or-has v (linear (number (word n))) x (word n) has (word-has n))

    pub immediate-gives : (N : ℕ) (op : ImmediateOp) (v : KnownValue) (x : ℕ) (n : ℤ) → Has queues xs v x
        → Gives (of_immediate queues N rs op v n) (with_immediate op x n)
    immediate-gives N op v x n has = else-gives (number_and (λ a. with_immediate op a n) (as_number v))
        (immediate_part queues N rs op v n) (with_immediate op x n)
        (number-is (λ a. with_immediate op a n) v x has) (immediate-part N op v x n has)

    shift-part : (N : ℕ) (op : ShiftOp) (v : KnownValue) (x amount : ℕ) → Has queues xs v x → Gives (shift_part queues N rs op v amount) (shifted op x amount)
    shift-part N shift.Left v x amount has = shifted-left v x amount has
    shift-part N shift.Right v x amount has = shifted-back N v x amount has
    shift-part N shift.RightArithmetic v x amount has = shifted-with-sign v x amount has

    pub shift-gives : (N : ℕ) (op : ShiftOp) (v : KnownValue) (x amount : ℕ) → Has queues xs v x
        → Gives (of_shift queues N rs op v amount) (shifted op x amount)
    shift-gives N op v x amount has = else-gives (number_and (λ a. shifted op a amount) (as_number v))
        (shift_part queues N rs op v amount) (shifted op x amount)
        (number-is (λ a. shifted op a amount) v x has) (shift-part N op v x amount has)

    register-part : (N : ℕ) (op : RegisterOp) (v w : KnownValue) (x y : ℕ) → Has queues xs v x → Has queues xs w y
        → Gives (register_part queues N rs op v w) (computed op x y)
    register-part N register.Add v w x y one two = sum-gives (rest_of queues v) (rest_of queues w) x y (rest-has v x one) (rest-has w y two)
    register-part N register.Sub v w x y one two = subst (Gives (of_rest (rests_added (rest_of queues v) (negative (rest_of queues w)))))
        (sym (word-of-difference x y)) (sum-gives (rest_of queues v) (negative (rest_of queues w)) x (y * (2 ^ 32 - 1))
        (rest-has v x one) (negative-has (rest_of queues w) y (rest-has w y two)))
    register-part N register.ShiftLeft v w x y one two = just-gives any (computed register.ShiftLeft x y) tt
    register-part N register.SetLess v w x y one two = flag-gives (is_below_signed (bounds rs v) (bounds rs w)) (int_lt (signed x) (signed y))
        (below-signed (bounds rs v) (bounds rs w) x y (in-bounds v x one) (in-bounds w y two))
    register-part N register.SetLessUnsigned v w x y one two = flag-gives (is_below (bounds rs v) (bounds rs w)) (nat_lt x y)
        (below-is (bounds rs v) (bounds rs w) x y (in-bounds v x one) (in-bounds w y two))
    register-part N register.Xor v w x y one two = just-gives (xor_of v w) (computed register.Xor x y) (xor-has v w x y one two)
    register-part N register.ShiftRight v w x y one two = just-gives any (computed register.ShiftRight x y) tt
    register-part N register.ShiftRightArithmetic v w x y one two = just-gives any (computed register.ShiftRightArithmetic x y) tt
    register-part N register.Or v w x y one two = just-gives (or_of v w) (computed register.Or x y) (or-has v w x y one two)
    register-part N register.And v w x y one two = ending-by v x (as_number w) y (ending_by w (as_number v) either) one is-w
        (subst (Gives (ending_by w (as_number v) either)) (and_comm y x)
        (ending-by w y (as_number v) x either two is-v (subst (Gives either) (and_comm x y)
        (masked-by N (rest_of queues v) x (as_number w) y (masked_by queues N rs (rest_of queues w) (as_number v) (just any)) (rest-has v x one) is-w
        (subst (Gives (masked_by queues N rs (rest_of queues w) (as_number v) (just any))) (and_comm y x)
        (masked-by N (rest_of queues w) y (as_number v) x (just any) (rest-has w y two) is-v (just-gives any (bit_and y x) tt)))))))
      where
        is-v : (m : ℕ) → as_number v ≡ Some m → x ≡ m
        is-v m is = known-is queues xs v x m is one

        is-w : (m : ℕ) → as_number w ≡ Some m → y ≡ m
        is-w m is = known-is queues xs w y m is two

        either : Result
        either = masked_by queues N rs (rest_of queues v) (as_number w) (masked_by queues N rs (rest_of queues w) (as_number v) (just any))

    pub register-gives : (N : ℕ) (op : RegisterOp) (v w : KnownValue) (x y : ℕ) → Has queues xs v x → Has queues xs w y
        → Gives (of_registers queues N rs op v w) (computed op x y)
    register-gives N op v w x y one two = else-gives (both (computed op) (as_number v) (as_number w)) (register_part queues N rs op v w) (computed op x y)
        (both-are (computed op) v w x y one two) (register-part N op v w x y one two)

    -- ---- branches

    negated-is : (o : Option Bool) (b : Bool) → ((t : Bool) → o ≡ Some t → b ≡ t) → (t : Bool) → negated o ≡ Some t → not b ≡ t
    negated-is None b is t e = absurd (cc)
    negated-is (Some c) b is t e = ap not (is c refl) ∙ (let same : not c ≡ t = cc in same)

    -- a word is negative where its highest bit is 1
    sign-is : (m b x : ℕ) → Has queues xs (has_bits m b) x → bit_and m (2 ^ 31) ≡ 2 ^ 31 → int_lt (signed x) (pos 0) ≡ (bit_and b (2 ^ 31) == 2 ^ 31)
    sign-is m b x has known = elim (cases_lt x (2 ^ 31)) [
      | inl low ↦ ap (λ i. int_lt i (pos 0)) (signed-small x low) ∙ le-ltb x 0 (omega arith)
          ∙ sym (ne_eqb (bit_and b (2 ^ 31)) (2 ^ 31) (λ is. (let e : bit_and b (2 ^ 31) ≡ x / 2 ^ 31 * 2 ^ 31 = highest-bit x m b has.0 has.1 known in
          omega (arith, e, is, low))))
      | inr high ↦ (let at : signed x ≡ negsuc (2 ^ 32 - 1 - x) =
          ap (λ t. if t then pos x else pos x -ℤ pos (2 ^ 32)) (le-ltb x (2 ^ 31) high)
          ∙ (let e : pos x -ℤ pos (2 ^ 32) ≡ negsuc (2 ^ 32 - 1 - x) = omega (arith, ints, has.0) in e) in
          ap (λ i. int_lt i (pos 0)) at
          ∙ sym (eq-eqb (bit_and b (2 ^ 31)) (2 ^ 31) (let e : bit_and b (2 ^ 31) ≡ x / 2 ^ 31 * 2 ^ 31 = highest-bit x m b has.0 has.1 known in
          omega (arith, e, high, has.0))))
    ]

    less-is : (v w : KnownValue) (x y : ℕ) → Has queues xs v x → Has queues xs w y → (t : Bool) → is_less rs v w ≡ Some t → int_lt (signed x) (signed y) ≡ t
    less-is v w x y one two = by v one
      where
        below : (t : Bool) → is_below_signed (bounds rs v) (bounds rs w) ≡ Some t → int_lt (signed x) (signed y) ≡ t
        below = below-signed (bounds rs v) (bounds rs w) x y (in-bounds v x one) (in-bounds w y two)

        at : (m b : ℕ) → Has queues xs (has_bits m b) x → (o : Option ℕ) → as_number w ≡ o → (t : Bool)
            → sign_or (has_bits m b) o (is_below_signed (bounds rs v) (bounds rs w)) ≡ Some t → int_lt (signed x) (signed y) ≡ t
        at m b has None of t is = below t is
        at m b has (Some (suc n)) of t is = below t is
        at m b has (Some zero) of t is = or (bit_and m (2 ^ 31) == 2 ^ 31) refl is
          where
            or : (u : Bool) → (bit_and m (2 ^ 31) == 2 ^ 31) ≡ u
                → (if u then Some (bit_and b (2 ^ 31) == 2 ^ 31) else is_below_signed (bounds rs v) (bounds rs w)) ≡ Some t → int_lt (signed x) (signed y) ≡ t
            or false other is = below t is
            or true known is = ap (λ z. int_lt (signed x) (signed z)) (known-is queues xs w y 0 of two)
                ∙ sign-is m b x has (eqb-true (bit_and m (2 ^ 31)) (2 ^ 31) known) ∙ (let e : (bit_and b (2 ^ 31) == 2 ^ 31) ≡ t = cc in e)

        by : (u : KnownValue) → Has queues xs u x → (t : Bool) → sign_or u (as_number w) (is_below_signed (bounds rs v) (bounds rs w)) ≡ Some t
            → int_lt (signed x) (signed y) ≡ t
        by (has_bits m b) has t is = at m b has (as_number w) refl t is
        by other has t is = below t is

    branch-part : (op : BranchOp) (v w : KnownValue) (x y : ℕ) → Has queues xs v x → Has queues xs w y → (t : Bool)
        → branch_part queues rs op v w ≡ Some t → is_taken op x y ≡ t
    branch-part branch.Equal v w x y one two t is = equal-is queues xs rs ranges v w x y one two t is
    branch-part branch.NotEqual v w x y one two t is = negated-is (is_equal queues rs v w) (x == y) (equal-is queues xs rs ranges v w x y one two) t is
    branch-part branch.Less v w x y one two t is = less-is v w x y one two t is
    branch-part branch.GreaterEqual v w x y one two t is = negated-is (is_less rs v w) (int_lt (signed x) (signed y)) (less-is v w x y one two) t is
    branch-part branch.LessUnsigned v w x y one two t is = below-is (bounds rs v) (bounds rs w) x y (in-bounds v x one) (in-bounds w y two) t is
    branch-part branch.GreaterEqualUnsigned v w x y one two t is = negated-is (is_below (bounds rs v) (bounds rs w)) (nat_lt x y)
        (below-is (bounds rs v) (bounds rs w) x y (in-bounds v x one) (in-bounds w y two)) t is

    pub branch-is : (op : BranchOp) (v w : KnownValue) (x y : ℕ) → Has queues xs v x → Has queues xs w y → (t : Bool)
        → is_branch_taken queues rs op v w ≡ Some t → is_taken op x y ≡ t
    branch-is op v w x y one two t is = by (as_number v) (as_number w) refl refl is
      where
        by : (k l : Option ℕ) → as_number v ≡ k → as_number w ≡ l → taken_known op k l (branch_part queues rs op v w) ≡ Some t → is_taken op x y ≡ t
        by None l vk wl is = branch-part op v w x y one two t is
        by (Some a) None vk wl is = branch-part op v w x y one two t is
        by (Some a) (Some b) vk wl is = ap (λ z. is_taken op z y) (known-is queues xs v x a vk one) ∙ ap (is_taken op a) (known-is queues xs w y b wl two)
            ∙ (let e : is_taken op a b ≡ t = cc in e)
