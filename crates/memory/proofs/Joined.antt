-- Numbers of any count of bytes, and their bytes.
use Rattle.std.proofs.Common.{◌≡◌, ℕ, zero, suc, ◌+◌, ◌-◌, ◌*◌, ◌/◌, ◌%◌, ◌^◌, ◌<◌, ◌≤◌, ◌==◌, Bool, true, false, refl, sym, ◌∙◌, ap, subst, arith}
use Rattle.std.specs.Int.{byte_at}
use Rattle.std.proofs.lemmas.Bool.{eqb-true, eqb-false}
use Rattle.std.proofs.lemmas.Nat.{mul-le, pow-add, div-mul-add}
use Rattle.std.proofs.Math.Nat.{pow-suc, pow-le-pow_right, div-eq_of_lt, add-mul-div_right, add-mul-mod_self_right, mul_assoc, mod-eq_of_lt}
use Rattle.std.proofs.Math.Arith.{mod-mul}
use Rattle.memory.specs.Writes.{joined}
use Rattle.memory.proofs.Bytes.{joined-same}

pub byte_at-is : (i v : ℕ) → byte_at i v ≡ v / 256 ^ i % 256
byte_at-is i v = grind arith

some_bytes : (n : ℕ) → 0 < 256 ^ n
some_bytes zero = omega arith
some_bytes (suc n) = omega (arith, some_bytes n, pow-suc 256 n)

-- a number below 2 ^ 32 has only zeros past its four bytes
pub byte_past : (i v : ℕ) → 4 ≤ i → v < 2 ^ 32 → byte_at i v ≡ 0
byte_past i v past small =
    let large : 256 ^ 4 ≤ 256 ^ i = pow-le-pow_right (omega arith) past in
    let none : v / 256 ^ i ≡ 0 = div-eq_of_lt (omega arith) in
    byte_at-is i v ∙ ap (λ q. q % 256) none

-- the bytes of a number below those added above them
byte_low : (l f i n : ℕ) → i < n → byte_at i (l + f * 256 ^ n) ≡ byte_at i l
byte_low l f i n lt =
    let m : ℕ = n - suc i in
    let count : n ≡ suc m + i = omega arith in
    let power : 256 ^ n ≡ (256 ^ m * 256) * 256 ^ i = ap (λ k. 256 ^ k) count ∙ pow-add 256 (suc m) i ∙ ap (λ x. x * 256 ^ i) (pow-suc 256 m) in
    byte_at-is i (l + f * 256 ^ n)
    ∙ ap (λ x. (l + f * x) / 256 ^ i % 256) power
    ∙ ap (λ x. (l + x) / 256 ^ i % 256) (sym (mul_assoc f (256 ^ m * 256) (256 ^ i)))
    ∙ ap (λ x. x % 256) (add-mul-div_right l (f * (256 ^ m * 256)) (some_bytes i))
    ∙ ap (λ x. (l / 256 ^ i + x) % 256) (sym (mul_assoc f (256 ^ m) 256))
    ∙ add-mul-mod_self_right (l / 256 ^ i) (f * 256 ^ m) 256
    ∙ sym (byte_at-is i l)

pub joined-below : (f : ℕ → ℕ) → ((i : ℕ) → f i < 256) → (n : ℕ) → joined f n < 256 ^ n
joined-below f small zero = omega arith
joined-below f small (suc n) = grind (arith, mul-le (f n) (256 ^ n) 255 (256 ^ n), pow-suc 256 n, joined-below f small n)

-- each byte of a number of bytes
pub byte_of_joined-any : (f : ℕ → ℕ) → ((i : ℕ) → f i < 256) → (n i : ℕ) → i < n → byte_at i (joined f n) ≡ f i
byte_of_joined-any f small zero i lt = absurd (omega arith)
byte_of_joined-any f small (suc n) i lt = at (i == n) refl (λ below. byte_of_joined-any f small n i below)
  where
    top : byte_at n (joined f n + f n * 256 ^ n) ≡ f n
    top =
        let below : joined f n < 256 ^ n = joined-below f small n in
        let turned : joined f n + f n * 256 ^ n ≡ f n * 256 ^ n + joined f n = omega arith in
        let byte : f n < 256 = small n in
        byte_at-is n (joined f n + f n * 256 ^ n)
        ∙ ap (λ x. x / 256 ^ n % 256) turned
        ∙ ap (λ x. x % 256) (div-mul-add (f n) (256 ^ n) (joined f n) below)
        ∙ mod-eq_of_lt byte

    at : (b : Bool) → (i == n) ≡ b → (i < n → byte_at i (joined f n) ≡ f i) → byte_at i (joined f n + f n * 256 ^ n) ≡ f i
    at true is lower = let same : i ≡ n = eqb-true i n is in subst (λ (k : ℕ). byte_at k (joined f n + f n * 256 ^ n) ≡ f k) (sym same) top
    at false is lower =
        let other : i ≡ n → ⊥ = eqb-false i n is in
        byte_low (joined f n) (f n) i n (omega arith) ∙ lower (omega arith)

-- a number of n bytes is that of its bytes
pub joined-bytes : (v n : ℕ) → joined (λ i. byte_at i v) n ≡ v % 256 ^ n
joined-bytes v zero = omega arith
joined-bytes v (suc n) = grind (arith, mod-mul, some_bytes, pow-suc, byte_at-is, joined-bytes v n)

pub number_of_bytes : (f : ℕ → ℕ) (v n : ℕ) → v < 256 ^ n → ((i : ℕ) → i < n → byte_at i v ≡ f i) → v ≡ joined f n
number_of_bytes f v n below same = sym (mod-eq_of_lt below) ∙ sym (joined-bytes v n) ∙ joined-same (λ i. byte_at i v) f n same
