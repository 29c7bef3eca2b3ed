-- Bits of numbers of which some are known: after `or`, after a mask, and after shifts.
use Rattle.std.proofs.Common.{ℕ, ◌+◌, ◌-◌, ◌*◌, ◌/◌, ◌%◌, ◌^◌, ◌<◌, ◌≤◌, ◌≡◌, inl, inr, if◌then◌else◌, sym, ◌∙◌, ap, subst, arith}
use Rattle.std.specs.Prelude.{bit_and, bit_or, bit_xor, min, max, nat_lt}
use Rattle.std.specs.Int.{bit_at}
use Rattle.std.specs.Int.Bits.{and_self, and_zero_l}
use Rattle.std.proofs.lemmas.Bool.{cases_lt, lt-ltb, le-ltb}
use Rattle.std.proofs.lemmas.Nat.{pow_pos, pow-add, shr_split, div-mul-add, and_mask, and_mod, and_block, and_le_l, and_le_r, and_comm, and_assoc, and_or_apart}
use Rattle.std.proofs.lemmas.Nat.Bits.{bit_at_and, bit_at_or, bit_at_xor, bit_at-lt, bit_at_above, bit_at_ones, bit_at_mask_below, same_from_bits, and_pow}
use Rattle.std.proofs.lemmas.Nat.Gcd.{dvd_of_mod-eq-zero}
use Rattle.std.proofs.Math.Nat.{mod-eq_of_lt, mod-lt, mul_assoc, zero-mod, mod-mod_of_dvd, mul-mod_left, div-eq_of_lt, div-lt_iff_lt-mul, pow-le-pow_right}

-- fewer bits of known ones
pub fewer-bits : (x m n : ℕ) → bit_and m n ≡ n → bit_and x n ≡ bit_and (bit_and x m) n
fewer-bits x m n within = ap (bit_and x) (sym within) ∙ sym (and_assoc n x m)

pub or-bits : (x y m n b c : ℕ) → bit_and x m ≡ b → bit_and y n ≡ c → bit_and (bit_or x y) (bit_or (bit_and m n) (bit_or b c)) ≡ bit_or b c
or-bits x y m n b c one two = same_from_bits (bit_and (bit_or x y) (bit_or (bit_and m n) (bit_or b c))) (bit_or b c) at
  where
    by : (x y m n : ℕ) → x < 2 → y < 2 → m < 2 → n < 2
        → min (max x y) (max (min m n) (max (min x m) (min y n))) ≡ max (min x m) (min y n)
    by x y m n lx ly lm ln = omega (arith, lx, ly, lm, ln)

    at : (i : ℕ) → bit_at (bit_and (bit_or x y) (bit_or (bit_and m n) (bit_or b c))) i ≡ bit_at (bit_or b c) i
    at i = grind (arith, bit_at_and, bit_at_or, by, bit_at-lt)

-- a mask keeps known bits, and leaves 0 beside it
pub kept-bits : (x m mask : ℕ) → x < 2 ^ 32 → bit_and (bit_and x mask) (bit_or m (bit_xor mask (2 ^ 32 - 1))) ≡ bit_and (bit_and x m) mask
kept-bits x m mask small = same_from_bits (bit_and (bit_and x mask) (bit_or m (bit_xor mask (2 ^ 32 - 1)))) (bit_and (bit_and x m) mask) at
  where
    below : (x m c f : ℕ) → x < 2 → m < 2 → c < 2 → f ≡ 1 → min (min x c) (max m ((c + f) % 2)) ≡ min (min x m) c
    below x m c f lx lm lc one = omega (arith, lx, lm, lc, one)

    above : (x m c f : ℕ) → x ≡ 0 → min (min x c) (max m ((c + f) % 2)) ≡ min (min x m) c
    above x m c f none = omega (arith, none)

    bits : (i : ℕ) → min (min (bit_at x i) (bit_at mask i)) (max (bit_at m i) ((bit_at mask i + bit_at (2 ^ 32 - 1) i) % 2))
        ≡ min (min (bit_at x i) (bit_at m i)) (bit_at mask i)
    bits i = elim (cases_lt i 32) [
      | inl low ↦ below (bit_at x i) (bit_at m i) (bit_at mask i) (bit_at (2 ^ 32 - 1) i) (bit_at-lt x i)
          (bit_at-lt m i) (bit_at-lt mask i) (bit_at_ones 32 i low)
      | inr high ↦ above (bit_at x i) (bit_at m i) (bit_at mask i) (bit_at (2 ^ 32 - 1) i) (bit_at_above x 32 i small high)
    ]

    at : (i : ℕ) → bit_at (bit_and (bit_and x mask) (bit_or m (bit_xor mask (2 ^ 32 - 1)))) i ≡ bit_at (bit_and (bit_and x m) mask) i
    at i = grind (arith, bit_at_and, bit_at_or, bit_at_xor, bits)

-- shifted left
and-shl : (x m a : ℕ) → bit_and (x * 2 ^ a) (m * 2 ^ a) ≡ bit_and x m * 2 ^ a
and-shl x m a =
    let e : bit_and (x * 2 ^ a + 0) (m * 2 ^ a + 0) ≡ bit_and x m * 2 ^ a + bit_and 0 0 = and_block a x m 0 0 (pow_pos a) (pow_pos a) in
    let u : x * 2 ^ a + 0 ≡ x * 2 ^ a = omega arith in
    let v : m * 2 ^ a + 0 ≡ m * 2 ^ a = omega arith in
    sym (ap (λ z. bit_and z (m * 2 ^ a + 0)) u ∙ ap (bit_and (x * 2 ^ a)) v) ∙ e ∙ (let w : bit_and x m * 2 ^ a + 0 ≡ bit_and x m * 2 ^ a = omega arith in w)

low-none : (x a : ℕ) → bit_and (2 ^ a - 1) ((x * 2 ^ a) % 2 ^ 32) ≡ 0
low-none x a = and_comm (2 ^ a - 1) ((x * 2 ^ a) % 2 ^ 32) ∙ and_mask ((x * 2 ^ a) % 2 ^ 32) a ∙ elim (cases_lt 32 a) [
  | inl more ↦ far more
  | inr few ↦ near few
]
  where
    near : a ≤ 32 → (x * 2 ^ a) % 2 ^ 32 % 2 ^ a ≡ 0
    near few = mod-mod_of_dvd (2 ^ a) (x * 2 ^ a) (dvd_of_mod-eq-zero (2 ^ a) (ap (λ n. n % 2 ^ a) parts ∙ mul-mod_left (2 ^ (32 - a)) (2 ^ a)))
        ∙ mul-mod_left x (2 ^ a)
      where
        parts : 2 ^ 32 ≡ 2 ^ (32 - a) * 2 ^ a
        parts = ap (λ i. 2 ^ i) (let e : 32 ≡ 32 - a + a = omega (arith, few) in e) ∙ pow-add 2 (32 - a) a

    far : 32 < a → (x * 2 ^ a) % 2 ^ 32 % 2 ^ a ≡ 0
    far more =
        let parts : 2 ^ a ≡ 2 ^ (a - 32) * 2 ^ 32 = ap (λ i. 2 ^ i) (let e : a ≡ a - 32 + 32 = omega (arith, more) in e) ∙ pow-add 2 (a - 32) 32 in
        let whole : x * 2 ^ a ≡ x * 2 ^ (a - 32) * 2 ^ 32 = ap (λ n. x * n) parts ∙ sym (mul_assoc x (2 ^ (a - 32)) (2 ^ 32)) in
        ap (λ n. n % 2 ^ a) (ap (λ n. n % 2 ^ 32) whole ∙ mul-mod_left (x * 2 ^ (a - 32)) (2 ^ 32)) ∙ zero-mod (2 ^ a)

pub shl-bits : (x m b a : ℕ) → bit_and x m ≡ b
    → bit_and ((x * 2 ^ a) % 2 ^ 32) (bit_or ((m * 2 ^ a) % 2 ^ 32) (2 ^ a - 1)) ≡ (b * 2 ^ a) % 2 ^ 32
shl-bits x m b a is = and_comm ((x * 2 ^ a) % 2 ^ 32) (bit_or ((m * 2 ^ a) % 2 ^ 32) (2 ^ a - 1))
    ∙ and_or_apart ((x * 2 ^ a) % 2 ^ 32) ((m * 2 ^ a) % 2 ^ 32) (2 ^ a - 1) (low-none x a)
    ∙ and_comm ((m * 2 ^ a) % 2 ^ 32) ((x * 2 ^ a) % 2 ^ 32)
    ∙ sym (and_mod (x * 2 ^ a) (m * 2 ^ a) 32) ∙ ap (λ z. z % 2 ^ 32) (and-shl x m a ∙ ap (λ z. z * 2 ^ a) is)

-- shifted right
and-shr : (x m a : ℕ) → bit_and (x / 2 ^ a) (m / 2 ^ a) ≡ bit_and x m / 2 ^ a
and-shr x m a =
    let parts : bit_and (x / 2 ^ a * 2 ^ a + x % 2 ^ a) (m / 2 ^ a * 2 ^ a + m % 2 ^ a)
    ≡ bit_and (x / 2 ^ a) (m / 2 ^ a) * 2 ^ a + bit_and (x % 2 ^ a) (m % 2 ^ a) =
    and_block a (x / 2 ^ a) (m / 2 ^ a) (x % 2 ^ a) (m % 2 ^ a) (mod-lt x (pow_pos a)) (mod-lt m (pow_pos a)) in
    let whole : bit_and x m ≡ bit_and (x / 2 ^ a) (m / 2 ^ a) * 2 ^ a + bit_and (x % 2 ^ a) (m % 2 ^ a) =
    sym (ap (λ z. bit_and z (m / 2 ^ a * 2 ^ a + m % 2 ^ a)) (shr_split x a) ∙ ap (bit_and x) (shr_split m a)) ∙ parts in
    let low : bit_and (x % 2 ^ a) (m % 2 ^ a) < 2 ^ a =
    (let le : bit_and (x % 2 ^ a) (m % 2 ^ a) ≤ x % 2 ^ a = and_le_l (x % 2 ^ a) (m % 2 ^ a) in
    let lt : x % 2 ^ a < 2 ^ a = mod-lt x (pow_pos a) in omega (arith, le, lt)) in
    sym (ap (λ z. z / 2 ^ a) whole ∙ div-mul-add (bit_and (x / 2 ^ a) (m / 2 ^ a)) (2 ^ a) (bit_and (x % 2 ^ a) (m % 2 ^ a)) low)

pub shr-bits : (x m b a : ℕ) → x < 2 ^ 32 → bit_and x m ≡ b
    → bit_and (x / 2 ^ a) (bit_or (m / 2 ^ a) (2 ^ 32 - 2 ^ (32 - a))) ≡ b / 2 ^ a
shr-bits x m b a small is = and_comm (x / 2 ^ a) (bit_or (m / 2 ^ a) (2 ^ 32 - 2 ^ (32 - a)))
    ∙ and_or_apart (x / 2 ^ a) (m / 2 ^ a) (2 ^ 32 - 2 ^ (32 - a)) none
    ∙ and_comm (m / 2 ^ a) (x / 2 ^ a) ∙ and-shr x m a ∙ ap (λ z. z / 2 ^ a) is
  where
    few : x / 2 ^ a < 2 ^ (32 - a)
    few = elim (cases_lt 32 a) [
      | inl more ↦ (let up : 2 ^ 32 ≤ 2 ^ a = pow-le-pow_right {n = 2} (omega arith) {i = 32} {j = a} (omega (arith, more)) in
          let none : x / 2 ^ a ≡ 0 = div-eq_of_lt (omega (arith, up, small)) in
          let some : 1 ≤ 2 ^ (32 - a) = pow_pos (32 - a) in omega (arith, none, some))
      | inr low ↦ (div-lt_iff_lt-mul {k = 2 ^ a} {x = x} {y = 2 ^ (32 - a)} (pow_pos a)).1
          (subst (λ n. x < n) (ap (λ i. 2 ^ i) (let e : 32 ≡ 32 - a + a = omega (arith, low) in e) ∙ pow-add 2 (32 - a) a) small)
    ]

    none : bit_and (2 ^ 32 - 2 ^ (32 - a)) (x / 2 ^ a) ≡ 0
    none = same_from_bits (bit_and (2 ^ 32 - 2 ^ (32 - a)) (x / 2 ^ a)) 0 (λ i. bit_at_and (2 ^ 32 - 2 ^ (32 - a)) (x / 2 ^ a) i ∙ elim (cases_lt i (32 - a)) [
      | inl low ↦ (let z : bit_at (2 ^ 32 - 2 ^ (32 - a)) i ≡ 0 = bit_at_mask_below (32 - a) 32 i low in omega (arith, z))
      | inr high ↦ (let z : bit_at (x / 2 ^ a) i ≡ 0 = bit_at_above (x / 2 ^ a) (32 - a) i few high in omega (arith, z))
    ])

-- the low bits of a number
pub low-bits-and : (x m k : ℕ) → m < 2 ^ k → bit_and (x % 2 ^ k) m ≡ bit_and x m
low-bits-and x m k small = ap (λ z. bit_and z m) (sym (and_mask x k)) ∙ and_assoc m x (2 ^ k - 1)
    ∙ ap (bit_and x) (and_comm (2 ^ k - 1) m ∙ and_mask m k ∙ mod-eq_of_lt small)

-- the highest bit
pub highest-bit : (x m b : ℕ) → x < 2 ^ 32 → bit_and x m ≡ b → bit_and m (2 ^ 31) ≡ 2 ^ 31 → bit_and b (2 ^ 31) ≡ x / 2 ^ 31 * 2 ^ 31
highest-bit x m b small is has = ap (λ z. bit_and z (2 ^ 31)) (sym is) ∙ sym (fewer-bits x m (2 ^ 31) has) ∙ and_pow x 31
    ∙ ap (λ z. z * 2 ^ 31) (mod-eq_of_lt (let e : x / 2 ^ 31 < 2 = omega (arith, small) in e))

-- a number of j + 1 bits and of more, all of which are its highest
abbrev signed_by : (n h x : ℕ) → ℕ
signed_by n h x = if nat_lt (x + x) n then x else x + h

signed-low : (n h x : ℕ) → x + x < n → signed_by n h x ≡ x
signed-low n h x low = ap (λ t. if t then x else x + h) (lt-ltb (x + x) n low)

signed-high : (n h x : ℕ) → n ≤ x + x → signed_by n h x ≡ x + h
signed-high n h x high = ap (λ t. if t then x else x + h) (le-ltb (x + x) n high)

pub signed-bits : (j c x m : ℕ) → x < 2 ^ (j + 1) → m < 2 ^ (j + 1)
    → bit_and (signed_by (2 ^ (j + 1)) (c * 2 ^ (j + 1)) x) (signed_by (2 ^ (j + 1)) (c * 2 ^ (j + 1)) m)
    ≡ signed_by (2 ^ (j + 1)) (c * 2 ^ (j + 1)) (bit_and x m)
signed-bits j c x m small-x small-m = elim (cases_lt (x + x) n) [
  | inl low ↦ elim (cases_lt (m + m) n) [
    | inl down ↦ ap (λ z. bit_and z (s m)) (signed-low n h x low) ∙ ap (bit_and x) (signed-low n h m down) ∙ sym (signed-low n h (bit_and x m) (under low))
    | inr up ↦ ap (λ z. bit_and z (s m)) (signed-low n h x low) ∙ ap (bit_and x) (signed-high n h m up) ∙ beside x m small-x small-m
        ∙ sym (signed-low n h (bit_and x m) (under low))
  ]
  | inr high ↦ elim (cases_lt (m + m) n) [
    | inl down ↦ ap (λ z. bit_and z (s m)) (signed-high n h x high) ∙ ap (bit_and (x + h)) (signed-low n h m down)
        ∙ and_comm (x + h) m ∙ beside m x small-m small-x ∙ and_comm m x ∙ sym (signed-low n h (bit_and x m) (also down))
    | inr up ↦ ap (λ z. bit_and z (s m)) (signed-high n h x high) ∙ ap (bit_and (x + h)) (signed-high n h m up) ∙ together
        ∙ sym (signed-high n h (bit_and x m) (over high up))
  ]
]
  where
    n : ℕ
    n = 2 ^ (j + 1)

    h : ℕ
    h = c * 2 ^ (j + 1)

    s : ℕ → ℕ
    s y = signed_by n h y

    under : x + x < n → bit_and x m + bit_and x m < n
    under low = let le : bit_and x m ≤ x = and_le_l x m in omega (arith, le, low)

    also : m + m < n → bit_and x m + bit_and x m < n
    also low = let le : bit_and x m ≤ m = and_le_r x m in omega (arith, le, low)

    beside : (y z : ℕ) → y < 2 ^ (j + 1) → z < 2 ^ (j + 1) → bit_and y (z + c * 2 ^ (j + 1)) ≡ bit_and y z
    beside y z ly lz =
        let e : bit_and (0 * 2 ^ (j + 1) + y) (c * 2 ^ (j + 1) + z) ≡ bit_and 0 c * 2 ^ (j + 1) + bit_and y z = and_block (j + 1) 0 c y z ly lz in
        let u : z + c * 2 ^ (j + 1) ≡ c * 2 ^ (j + 1) + z = omega arith in
        let v : y ≡ 0 * 2 ^ (j + 1) + y = omega arith in
        ap (bit_and y) u ∙ ap (λ w. bit_and w (c * 2 ^ (j + 1) + z)) v ∙ e ∙ ap (λ w. w * 2 ^ (j + 1) + bit_and y z) (and_zero_l c)
        ∙ (let w : 0 * 2 ^ (j + 1) + bit_and y z ≡ bit_and y z = omega arith in w)

    together : bit_and (x + h) (m + h) ≡ bit_and x m + h
    together =
        let e : bit_and (c * 2 ^ (j + 1) + x) (c * 2 ^ (j + 1) + m) ≡ bit_and c c * 2 ^ (j + 1) + bit_and x m = and_block (j + 1) c c x m small-x small-m in
        let u : x + c * 2 ^ (j + 1) ≡ c * 2 ^ (j + 1) + x = omega arith in
        let v : m + c * 2 ^ (j + 1) ≡ c * 2 ^ (j + 1) + m = omega arith in
        ap (λ w. bit_and w (m + c * 2 ^ (j + 1))) u ∙ ap (bit_and (c * 2 ^ (j + 1) + x)) v ∙ e ∙ ap (λ w. w * 2 ^ (j + 1) + bit_and x m) (and_self c)
        ∙ (let w : c * 2 ^ (j + 1) + bit_and x m ≡ bit_and x m + c * 2 ^ (j + 1) = omega arith in w)

    twice : 2 ^ (j + 1) ≡ 2 ^ j + 2 ^ j
    twice = pow-add 2 j 1 ∙ (let e : 2 ^ j * 2 ^ 1 ≡ 2 ^ j + 2 ^ j = omega arith in e)

    over : n ≤ x + x → n ≤ m + m → n ≤ bit_and x m + bit_and x m
    over high up =
        let e : bit_and (1 * 2 ^ j + (x - 2 ^ j)) (1 * 2 ^ j + (m - 2 ^ j)) ≡ bit_and 1 1 * 2 ^ j + bit_and (x - 2 ^ j) (m - 2 ^ j) =
        and_block j 1 1 (x - 2 ^ j) (m - 2 ^ j) (omega (arith, twice, small-x, high)) (omega (arith, twice, small-m, up)) in
        let u : 1 * 2 ^ j + (x - 2 ^ j) ≡ x = omega (arith, twice, high) in
        let v : 1 * 2 ^ j + (m - 2 ^ j) ≡ m = omega (arith, twice, up) in
        let one : bit_and 1 1 ≡ 1 = and_self 1 in
        let w : bit_and x m ≡ bit_and 1 1 * 2 ^ j + bit_and (x - 2 ^ j) (m - 2 ^ j) =
        sym (ap (λ y. bit_and y (1 * 2 ^ j + (m - 2 ^ j))) u ∙ ap (bit_and x) v) ∙ e in
        let at : bit_and x m ≡ 1 * 2 ^ j + bit_and (x - 2 ^ j) (m - 2 ^ j) = w ∙ ap (λ y. y * 2 ^ j + bit_and (x - 2 ^ j) (m - 2 ^ j)) one in
        omega (arith, at, twice)

-- shifted right with its sign
pub sar-bits : (x m b a : ℕ) → x < 2 ^ 32 → m < 2 ^ 32 → a ≤ 31 → bit_and x m ≡ b
    → bit_and (signed_by (2 ^ (31 - a + 1)) ((2 ^ a - 1) * 2 ^ (31 - a + 1)) (x / 2 ^ a))
    (signed_by (2 ^ (31 - a + 1)) ((2 ^ a - 1) * 2 ^ (31 - a + 1)) (m / 2 ^ a))
    ≡ signed_by (2 ^ (31 - a + 1)) ((2 ^ a - 1) * 2 ^ (31 - a + 1)) (b / 2 ^ a)
sar-bits x m b a small-x small-m low is = signed-bits (31 - a) (2 ^ a - 1) (x / 2 ^ a) (m / 2 ^ a) (few x small-x) (few m small-m)
    ∙ ap (signed_by (2 ^ (31 - a + 1)) ((2 ^ a - 1) * 2 ^ (31 - a + 1))) (and-shr x m a ∙ ap (λ z. z / 2 ^ a) is)
  where
    few : (y : ℕ) → y < 2 ^ 32 → y / 2 ^ a < 2 ^ (31 - a + 1)
    few y small = (div-lt_iff_lt-mul {k = 2 ^ a} {x = y} {y = 2 ^ (31 - a + 1)} (pow_pos a)).1
        (subst (λ n. y < n) (ap (λ i. 2 ^ i) (let e : 32 ≡ 31 - a + 1 + a = omega (arith, low) in e) ∙ pow-add 2 (31 - a + 1) a) small)
