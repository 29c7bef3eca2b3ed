-- Numbers that end in as many zeros as others do, in their lowest bits.
use Rattle.std.proofs.Common.{ℕ, ◌+◌, ◌-◌, ◌*◌, ◌%◌, ◌^◌, ◌<◌, ◌≤◌, ◌≡◌, ◌==◌, Bool, sym, ◌∙◌, ap, arith}
use Rattle.std.specs.Prelude.{bit_and, bit_xor}
use Rattle.std.specs.Int.Bits.{xor_add_and, xor_self}
use Rattle.std.proofs.lemmas.Bool.{cases_eq, eq-eqb, ne_eqb}
use Rattle.std.proofs.lemmas.Nat.{pow_pos, pow-add, xor_mod, and_le_l, and_le_r}
use Rattle.std.proofs.Math.Nat.{mod-eq_of_lt, mul-mod_left}
use Rattle.std.proofs.Math.Pow.{mod-mod-pow}
use Rattle.queue_certificates.specs.States.{EndAlike}
use Rattle.queue_certificates.proofs.Forms.{taken-away, away-by}

low-bits : (n j x : ℕ) → j ≤ n → x % 2 ^ n % 2 ^ j ≡ x % 2 ^ j
low-bits n j x le = ap (λ i. x % 2 ^ i % 2 ^ j) (let e : n ≡ n - j + j = omega (arith, le) in e) ∙ mod-mod-pow x (n - j) j

pub alike-same : (n x y z : ℕ) → y % 2 ^ n ≡ z % 2 ^ n → EndAlike n x y → EndAlike n x z
alike-same n x y z same alike j le = alike j le
    ∙ ap (λ r. r == 0) (sym (low-bits n j y le) ∙ ap (λ r. r % 2 ^ j) same ∙ low-bits n j z le)

pub alike-low : (n m x y : ℕ) → m ≤ n → EndAlike n x y → EndAlike m (x % 2 ^ m) y
alike-low n m x y few alike j le = ap (λ r. r == 0) (low-bits m j x le) ∙ alike j (omega (arith, le, few))

pub alike-zero : (n x y : ℕ) (t : Bool) → x < 2 ^ n → EndAlike n x y → (y % 2 ^ n == 0) ≡ t → (x == 0) ≡ t
alike-zero n x y t low alike is = ap (λ r. r == 0) (sym (mod-eq_of_lt low)) ∙ alike n (omega arith) ∙ is

-- what is 0 where two numbers are the same, and only there
pub tells-same : (n a b : ℕ) → (n ≡ 0 → a ≡ b) → (a ≡ b → n ≡ 0) → (n == 0) ≡ (a == b)
tells-same n a b to from = grind (arith, cases_eq, eq-eqb, ne_eqb)

xor-same : (a b : ℕ) → bit_xor a b ≡ 0 → a ≡ b
xor-same a b none =
    let sum : bit_xor a b + bit_and a b * 2 ≡ a + b = xor_add_and a b in
    let left : bit_and a b ≤ a = and_le_l a b in let right : bit_and a b ≤ b = and_le_r a b in
    omega (arith, sum, left, right, none)

-- `xor` and the difference of two words
pub xor-alike : (a b : ℕ) → EndAlike 32 (bit_xor a b) (a + (2 ^ 32 - 1) * b)
xor-alike a b j le = ap (λ r. r == 0) (xor_mod a b j)
    ∙ tells-same (bit_xor (a % 2 ^ j) (b % 2 ^ j)) (a % 2 ^ j) (b % 2 ^ j) (xor-same (a % 2 ^ j) (b % 2 ^ j))
    (λ same. ap (λ r. bit_xor r (b % 2 ^ j)) same ∙ xor_self (b % 2 ^ j))
    ∙ sym (ap (λ r. r == 0) (away-by (2 ^ j) (2 ^ 32) a b (pow_pos j) (omega arith) whole)
    ∙ tells-same ((a + (2 ^ j - 1) * b) % 2 ^ j) (a % 2 ^ j) (b % 2 ^ j) away.0 away.1)
  where
    whole : 2 ^ 32 % 2 ^ j ≡ 0
    whole = ap (λ n. n % 2 ^ j) (ap (λ i. 2 ^ i) (let e : 32 ≡ 32 - j + j = omega (arith, le) in e) ∙ pow-add 2 (32 - j) j)
        ∙ mul-mod_left (2 ^ (32 - j)) (2 ^ j)

    away : ((a + (2 ^ j - 1) * b) % 2 ^ j ≡ 0 → a % 2 ^ j ≡ b % 2 ^ j) × (a % 2 ^ j ≡ b % 2 ^ j → (a + (2 ^ j - 1) * b) % 2 ^ j ≡ 0)
    away = taken-away (2 ^ j) a b (pow_pos j)
