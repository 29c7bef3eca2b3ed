-- What sums, multiples and substituted forms come to.
use Rattle.std.proofs.Common.{ℕ, zero, suc, ◌+◌, ◌-◌, ◌*◌, ◌/◌, ◌%◌, ◌<◌, ◌≤◌, ◌≡◌, ◌==◌, true, List, [], ◌∷◌, get_or, refl, sym, ◌∙◌, ap, arith}
use Rattle.std.specs.Prelude.{map}
use Rattle.std.proofs.lemmas.Bool.{and_parts, eqb-true, cases_lt}
use Rattle.std.proofs.lemmas.Nat.{mul-mod_first}
use Rattle.std.proofs.Math.Nat.{mul-add, add-mul, zero-mul, mul-zero, mul_assoc, mul_comm, add-mod, mod-zero, zero-mod, add-mul-mod_self_left, mod-add-div}
use Rattle.std.proofs.Math.Nat.{mod-lt, mod-eq_of_lt, mul-mod_left}
use Rattle.queue_certificates.specs.Forms.{Form, dot, form_value, number, first_variable, sums, plus, times, lifted, combined, substituted, factor_at, raised}
use Rattle.queue_certificates.specs.Forms.{vanishes, agree, is_same}

abbrev pub values_of : List Form → List ℕ → List ℕ
values_of gs xs = map (λ g. form_value g xs) gs

pub dot-sums : (ms ns xs : List ℕ) → dot (sums ms ns) xs ≡ dot ms xs + dot ns xs
dot-sums [] ns xs = omega arith
dot-sums (m ∷ ms) [] xs = omega arith
dot-sums (m ∷ ms) (n ∷ ns) [] = omega arith
dot-sums (m ∷ ms) (n ∷ ns) (x ∷ xs) = grind (arith, add-mul m n x, dot-sums ms ns xs)

pub dot-times : (k : ℕ) (ms xs : List ℕ) → dot (map (λ m. k * m) ms) xs ≡ k * dot ms xs
dot-times k [] xs = sym (mul-zero k)
dot-times k (m ∷ ms) [] = sym (mul-zero k)
dot-times k (m ∷ ms) (x ∷ xs) = grind (arith, mul-add k (m * x) (dot ms xs), mul_assoc k m x, dot-times k ms xs)

pub value-plus : (f g : Form) (xs : List ℕ) → form_value (plus f g) xs ≡ form_value f xs + form_value g xs
value-plus f g xs = let s : dot (sums f.factors g.factors) xs ≡ dot f.factors xs + dot g.factors xs = dot-sums f.factors g.factors xs in omega (arith, s)

pub value-times : (k : ℕ) (f : Form) (xs : List ℕ) → form_value (times k f) xs ≡ k * form_value f xs
value-times k f xs = ap (λ d. k * f.constant + d) (dot-times k f.factors xs) ∙ sym (mul-add k f.constant (dot f.factors xs))

pub value-number : (n : ℕ) (xs : List ℕ) → form_value (number n) xs ≡ n
value-number n xs = omega arith

pub value-lifted : (f : Form) (y : ℕ) (xs : List ℕ) → form_value (lifted f) (y ∷ xs) ≡ form_value f xs
value-lifted f y xs = let z : 0 * y ≡ 0 = zero-mul y in omega (arith, z)

pub value-first : (y : ℕ) (xs : List ℕ) → form_value first_variable (y ∷ xs) ≡ y
value-first y xs = omega arith

value-combined : (ms : List ℕ) (gs : List Form) (xs : List ℕ) → form_value (combined ms gs) xs ≡ dot ms (values_of gs xs)
value-combined [] gs xs = refl
value-combined (m ∷ ms) [] xs = refl
value-combined (m ∷ ms) (g ∷ gs) xs = value-plus (times m g) (combined ms gs) xs
    ∙ ap (λ n. n + form_value (combined ms gs) xs) (value-times m g xs) ∙ ap (λ n. m * form_value g xs + n) (value-combined ms gs xs)

pub value-substituted : (f : Form) (gs : List Form) (xs : List ℕ) → form_value (substituted f gs) xs ≡ form_value f (values_of gs xs)
value-substituted f gs xs = value-plus (number f.constant) (combined f.factors gs) xs
    ∙ ap (λ n. form_value (number f.constant) xs + n) (value-combined f.factors gs xs)
    ∙ ap (λ n. n + dot f.factors (values_of gs xs)) (value-number f.constant xs)

-- ---- a variable that is less by so much

abbrev pub less_at : (j by : ℕ) → List ℕ → List ℕ
less_at j by [] = []
less_at zero by (x ∷ xs) = (x - by) ∷ xs
less_at (suc j) by (x ∷ xs) = x ∷ less_at j by xs

dot-raised : (ms : List ℕ) (j by : ℕ) (xs : List ℕ) → by ≤ get_or xs j 0 → 0 < by → factor_at ms j * by + dot ms (less_at j by xs) ≡ dot ms xs
dot-raised [] j by xs le some = let z : 0 * by ≡ 0 = zero-mul by in omega (arith, z)
dot-raised (m ∷ ms) j by [] le some = absurd (omega (arith, le, some))
dot-raised (m ∷ ms) zero by (x ∷ xs) le some =
    let whole : by + (x - by) ≡ x = omega (arith, le) in
    let both : m * by + m * (x - by) ≡ m * x = sym (mul-add m by (x - by)) ∙ ap (λ n. m * n) whole in omega (arith, both)
dot-raised (m ∷ ms) (suc j) by (x ∷ xs) le some =
    let rest : factor_at ms j * by + dot ms (less_at j by xs) ≡ dot ms xs = dot-raised ms j by xs le some in
    omega (arith, rest)

pub value-raised : (f : Form) (j by : ℕ) (xs : List ℕ) → by ≤ get_or xs j 0 → 0 < by → form_value (raised j by f) (less_at j by xs) ≡ form_value f xs
value-raised f j by xs le some = grind (arith, dot-raised)

-- ---- remainders

pub mod-sum : (a b c d n : ℕ) → a % n ≡ c % n → b % n ≡ d % n → (a + b) % n ≡ (c + d) % n
mod-sum a b c d n first second = add-mod a b n ∙ ap (λ x. (x + b % n) % n) first ∙ ap (λ x. (c % n + x) % n) second ∙ sym (add-mod c d n)

pub mod-product : (a c x n : ℕ) → a % n ≡ c % n → (a * x) % n ≡ (c * x) % n
mod-product a c x n same = sym (mul-mod_first a x n) ∙ ap (λ y. (y * x) % n) same ∙ mul-mod_first c x n

-- what lacks of a multiple of m, added
pub round-up : (m k c : ℕ) → 1 ≤ m → (k + c + (m - c % m)) % m ≡ k % m
round-up m k c some =
    let low : c % m < m = mod-lt c (omega (arith, some)) in
    let parts : c % m + m * (c / m) ≡ c = mod-add-div c m in
    (let turned : k + c + (m - c % m) ≡ (k + m * (c / m)) + m * 1 = omega (arith, parts, low) in ap (λ y. y % m) turned)
    ∙ add-mul-mod_self_left (k + m * (c / m)) m 1 ∙ add-mul-mod_self_left k m (c / m)

-- a + (n - 1) * b is a multiple of n where a and b have the same remainder, and only there
pub taken-away : (n a b : ℕ) → 1 ≤ n → ((a + (n - 1) * b) % n ≡ 0 → a % n ≡ b % n) × (a % n ≡ b % n → (a + (n - 1) * b) % n ≡ 0)
taken-away n a b some = (
  λ none. sym (add-mul-mod_self_left a n b) ∙ ap (λ y. y % n) (sym once)
      ∙ mod-sum (a + (n - 1) * b) b 0 b n (none ∙ sym (mod-eq_of_lt some)) refl
      ∙ (let e : 0 + b ≡ b = omega arith in ap (λ y. y % n) e),
  λ same. mod-sum a ((n - 1) * b) b ((n - 1) * b) n same refl
      ∙ (let e : b + (n - 1) * b ≡ b * n = whole in ap (λ y. y % n) e) ∙ mul-mod_left b n,
)
  where
    whole : b + (n - 1) * b ≡ b * n
    whole = grind (arith, add-mul, mul_comm)

    once : a + (n - 1) * b + b ≡ a + n * b
    once = let turned : n * b ≡ b * n = mul_comm n b in omega (arith, whole, turned)

-- and so is it by another multiple of n
pub away-by : (n w a b : ℕ) → 1 ≤ n → 1 ≤ w → w % n ≡ 0 → (a + (w - 1) * b) % n ≡ (a + (n - 1) * b) % n
away-by n w a b some more none = mod-sum a ((w - 1) * b) a ((n - 1) * b) n refl (mod-product (w - 1) (n - 1) b n
    (ap (λ y. y % n) parts ∙ add-mul-mod_self_left (n - 1) n (w / n - 1)))
  where
    whole : w % n + n * (w / n) ≡ w
    whole = mod-add-div w n

    rounds : 1 ≤ w / n
    rounds = grind (arith, cases_lt, mul-zero)

    parts : w - 1 ≡ n - 1 + n * (w / n - 1)
    parts = grind (arith, mul-add)

pub dot-vanishes : (n : ℕ) (ms xs : List ℕ) → vanishes n ms ≡ true → dot ms xs % n ≡ 0 % n
dot-vanishes n [] xs ok = refl
dot-vanishes n (m ∷ ms) [] ok = refl
dot-vanishes n (m ∷ ms) (x ∷ xs) ok =
    let parts = and_parts (m % n == 0) (vanishes n ms) ok in
    mod-sum (m * x) (dot ms xs) (0 * x) 0 n (mod-product m 0 x n (eqb-true (m % n) 0 parts.0 ∙ sym (zero-mod n))) (dot-vanishes n ms xs parts.1)
    ∙ (let none : 0 * x ≡ 0 = zero-mul x in let z : 0 * x + 0 ≡ 0 = omega (arith, none) in ap (λ y. y % n) z)

dot-agrees : (n : ℕ) (ms ks xs : List ℕ) → agree n ms ks ≡ true → dot ms xs % n ≡ dot ks xs % n
dot-agrees n [] ks xs ok = sym (dot-vanishes n ks xs ok)
dot-agrees n (m ∷ ms) [] xs ok = dot-vanishes n (m ∷ ms) xs ok
dot-agrees n (m ∷ ms) (k ∷ ks) [] ok = refl
dot-agrees n (m ∷ ms) (k ∷ ks) (x ∷ xs) ok =
    let parts = and_parts (m % n == k % n) (agree n ms ks) ok in
    mod-sum (m * x) (dot ms xs) (k * x) (dot ks xs) n (mod-product m k x n (eqb-true (m % n) (k % n) parts.0)) (dot-agrees n ms ks xs parts.1)

pub same-value : (n : ℕ) (f g : Form) (xs : List ℕ) → is_same n f g ≡ true → form_value f xs % n ≡ form_value g xs % n
same-value n f g xs ok =
    let parts = and_parts (f.constant % n == g.constant % n) (agree n f.factors g.factors) ok in
    mod-sum f.constant (dot f.factors xs) g.constant (dot g.factors xs) n (eqb-true (f.constant % n) (g.constant % n) parts.0)
    (dot-agrees n f.factors g.factors xs parts.1)

pub same-exactly : (f g : Form) (xs : List ℕ) → is_same 0 f g ≡ true → form_value f xs ≡ form_value g xs
same-exactly f g xs ok = sym (mod-zero (form_value f xs)) ∙ same-value 0 f g xs ok ∙ mod-zero (form_value g xs)

-- where the factors vanish, the value is the constant's remainder
pub constant-value : (n : ℕ) (f : Form) (xs : List ℕ) → vanishes n f.factors ≡ true → form_value f xs % n ≡ f.constant % n
constant-value n f xs ok = mod-sum f.constant (dot f.factors xs) f.constant 0 n refl (dot-vanishes n f.factors xs ok)
    ∙ (let z : f.constant + 0 ≡ f.constant = omega arith in ap (λ y. y % n) z)

pub times-value : (k : ℕ) (f : Form) (xs : List ℕ) (x n : ℕ) → x ≡ form_value f xs % n → (x * k) % n ≡ form_value (times k f) xs % n
times-value k f xs x n is = ap (λ y. (y * k) % n) is ∙ mul-mod_first (form_value f xs) k n
    ∙ ap (λ y. y % n) ((let turned : form_value f xs * k ≡ k * form_value f xs = mul_comm (form_value f xs) k in turned) ∙ sym (value-times k f xs))

pub plus-value : (f g : Form) (xs : List ℕ) (x y n : ℕ) → x ≡ form_value f xs % n → y ≡ form_value g xs % n → (x + y) % n ≡ form_value (plus f g) xs % n
plus-value f g xs x y n one two = ap (λ z. (z + y) % n) one ∙ ap (λ z. (form_value f xs % n + z) % n) two ∙ sym (add-mod (form_value f xs) (form_value g xs) n)
    ∙ ap (λ z. z % n) (sym (value-plus f g xs))
