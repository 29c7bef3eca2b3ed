-- Bounds of a difference as a remainder, where the numbers of both forms are reduced first.
use Rattle.std.proofs.Common.{ℕ, ◌≡◌, ◌+◌, ◌-◌, ◌*◌, ◌%◌, ◌∙◌, List, [], ◌∷◌, Option, if◌then◌else◌, refl, sym, ap}
use Rattle.std.specs.Prelude.{map, nat_le}
use Rattle.std.proofs.Math.Nat.{mod-mod, add-mod}
use Rattle.std.proofs.lemmas.Nat.{mul-mod_second}
use Rattle.queue_certificates.specs.Forms.{Form, plus, times, sums, reduced, risings, fallings, most_of_sum, bounds_between, bounds_of}

abbrev rests : (n : ℕ) → List ℕ → List ℕ
rests n ms = map (λ m. m % n) ms

both_parts : (m k : ℕ) (ms ks : List ℕ) → m ≡ k → ms ≡ ks → m ∷ ms ≡ k ∷ ks
both_parts m k ms ks e f = cc

sum_rest : (n m k : ℕ) → (m % n + k % n) % n ≡ (m + k) % n
sum_rest n m k = sym (add-mod m k n)

rests_again : (n : ℕ) (ms : List ℕ) → rests n (rests n ms) ≡ rests n ms
rests_again n [] = refl
rests_again n (m ∷ ms) = both_parts (m % n % n) (m % n) (rests n (rests n ms)) (rests n ms) (mod-mod m n) (rests_again n ms)

times_rests : (n k : ℕ) (ms : List ℕ) → rests n (map (λ m. k * m) (rests n ms)) ≡ rests n (map (λ m. k * m) ms)
times_rests n k [] = refl
times_rests n k (m ∷ ms) = both_parts ((k * (m % n)) % n) ((k * m) % n) (rests n (map (λ m. k * m) (rests n ms))) (rests n (map (λ m. k * m) ms))
    (mul-mod_second k m n) (times_rests n k ms)

number_rests : (n k a b : ℕ) → (a % n + k * (b % n)) % n ≡ (a + k * b) % n
number_rests n k a b = add-mod (a % n) (k * (b % n)) n ∙ ap (λ x. (x + (k * (b % n)) % n) % n) (mod-mod a n)
    ∙ ap (λ x. (a % n + x) % n) (mul-mod_second k b n) ∙ sum_rest n a (k * b)

sums_rests : (n k : ℕ) (ms ks : List ℕ) → rests n (sums (rests n ms) (map (λ m. k * m) (rests n ks))) ≡ rests n (sums ms (map (λ m. k * m) ks))
sums_rests n k [] ks = times_rests n k ks
sums_rests n k (m ∷ ms) [] = rests_again n (m ∷ ms)
sums_rests n k (m ∷ ms) (j ∷ ks) = both_parts ((m % n + k * (j % n)) % n) ((m + k * j) % n)
    (rests n (sums (rests n ms) (map (λ m. k * m) (rests n ks)))) (rests n (sums ms (map (λ m. k * m) ks)))
    (number_rests n k m j) (sums_rests n k ms ks)

rising_rests : (n : ℕ) (ms : List ℕ) → risings n ms ≡ map (λ r. if nat_le (n - r) r then 0 else r) (rests n ms)
rising_rests n [] = refl
rising_rests n (m ∷ ms) = ap (λ rs. (if nat_le (n - m % n) (m % n) then 0 else m % n) ∷ rs) (rising_rests n ms)

falling_rests : (n : ℕ) (ms : List ℕ) → fallings n ms ≡ map (λ r. if nat_le (n - r) r then n - r else 0) (rests n ms)
falling_rests n [] = refl
falling_rests n (m ∷ ms) = ap (λ rs. (if nat_le (n - m % n) (m % n) then n - m % n else 0) ∷ rs) (falling_rests n ms)

same_bounds : (n : ℕ) (rs : List (Option ℕ)) (f g : Form) → f.constant % n ≡ g.constant % n → rests n f.factors ≡ rests n g.factors
    → bounds_of n rs f ≡ bounds_of n rs g
same_bounds n rs f g constants factors =
    ap (λ c. bounds_between n c (most_of_sum rs (risings n f.factors)) (most_of_sum rs (fallings n f.factors))) constants
    ∙ ap (λ ms. bounds_between n (g.constant % n) (most_of_sum rs ms) (most_of_sum rs (fallings n f.factors)))
    (rising_rests n f.factors ∙ ap (λ ms. map (λ r. if nat_le (n - r) r then 0 else r) ms) factors ∙ sym (rising_rests n g.factors))
    ∙ ap (λ ms. bounds_between n (g.constant % n) (most_of_sum rs (risings n g.factors)) (most_of_sum rs ms))
    (falling_rests n f.factors ∙ ap (λ ms. map (λ r. if nat_le (n - r) r then n - r else 0) ms) factors ∙ sym (falling_rests n g.factors))

pub bounds_reduced : (n : ℕ) (rs : List (Option ℕ)) (f g : Form)
    → bounds_of n rs (plus (reduced n f) (times (n - 1) (reduced n g))) ≡ bounds_of n rs (plus f (times (n - 1) g))
bounds_reduced n rs f g = same_bounds n rs (plus (reduced n f) (times (n - 1) (reduced n g))) (plus f (times (n - 1) g))
    (number_rests n (n - 1) f.constant g.constant) (sums_rests n (n - 1) f.factors g.factors)
