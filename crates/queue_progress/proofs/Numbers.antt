-- Numbers below another: at each, at some, and at how many it isn't so.
use Rattle.std.proofs.Common.{ℕ, zero, suc, ◌+◌, ◌<◌, ◌≤◌, ◌≡◌, ◌&&◌, ◌||◌, inl, inr, if◌then◌else◌, Bool, true, false, refl, sym, ◌∙◌, ap, arith}
use Rattle.std.proofs.lemmas.Bool.{cases_eq}
use Rattle.queue_certificates.specs.Steps.{all_below}
use Rattle.queue_checker.specs.Accesses.{any_below}

pub all-from : (n : ℕ) (f : ℕ → Bool) → ((i : ℕ) → i < n → f i ≡ true) → all_below n f ≡ true
all-from zero f each = refl
all-from (suc n) f each = rw (each n (omega arith), all-from n f (λ i less. each i (omega (arith, less)))) refl

pub record Some-below (n : ℕ) (f : ℕ → Bool) : Type 0 where
  pub at : ℕ
  pub less : at < n
  pub is : f at ≡ true

pub some-below : (n : ℕ) (f : ℕ → Bool) → any_below n f ≡ true → Some-below n f
some-below zero f any = absurd (cc)
some-below (suc n) f any = by (f n) refl any (some-below n f)
  where
    by : (t : Bool) → f n ≡ t → (t || any_below n f) ≡ true → (any_below n f ≡ true → Some-below n f) → Some-below (suc n) f
    by true is any before = record { at = n; less = omega arith; is = is }
    by false is any before = let w = before any in record { at = w.at; less = (let low = w.less in omega (arith, low)); is = w.is }

-- at how many it isn't so
abbrev pub lacking : ℕ → (ℕ → Bool) → ℕ
lacking zero f = 0
lacking (suc n) f = (if f n then 0 else 1) + lacking n f

pub none-lacking : (n : ℕ) (f : ℕ → Bool) → lacking n f ≤ 0 → all_below n f ≡ true
none-lacking zero f few = refl
none-lacking (suc n) f few = by (f n) refl few (none-lacking n f)
  where
    by : (t : Bool) → f n ≡ t → (if t then 0 else 1) + lacking n f ≤ 0 → (lacking n f ≤ 0 → all_below n f ≡ true) → (f n && all_below n f) ≡ true
    by true is few rest = rw (is, rest (omega (arith, few))) refl
    by false is few rest = absurd (omega (arith, few))

pub fewer-lacking : (n : ℕ) (f g : ℕ → Bool) → ((i : ℕ) → i < n → f i ≡ true → g i ≡ true) → lacking n g ≤ lacking n f
fewer-lacking zero f g so = omega arith
fewer-lacking (suc n) f g so = by (f n) (g n) (so n (omega arith)) (fewer-lacking n f g (λ i less. so i (omega (arith, less))))
  where
    by : (t u : Bool) → (t ≡ true → u ≡ true) → lacking n g ≤ lacking n f → (if u then 0 else 1) + lacking n g ≤ (if t then 0 else 1) + lacking n f
    by true true so few = omega (arith, few)
    by true false so few = absurd (let no : false ≡ true = so refl in cc)
    by false true so few = omega (arith, few)
    by false false so few = omega (arith, few)

pub less-lacking : (n : ℕ) (f g : ℕ → Bool) → ((i : ℕ) → i < n → f i ≡ true → g i ≡ true) → (j : ℕ) → j < n → f j ≡ false → g j ≡ true
    → lacking n g < lacking n f
less-lacking zero f g so j less not is = absurd (omega (arith, less))
less-lacking (suc n) f g so j less not is = elim (cases_eq j n) [
  | inl same ↦ (let few : lacking n g ≤ lacking n f = fewer-lacking n f g (λ i low. so i (omega (arith, low))) in
      rw (sym (ap f same) ∙ not, sym (ap g same) ∙ is) (omega (arith, few)))
  | inr apart ↦ by (f n) (g n) (so n (omega arith)) (less-lacking n f g (λ i low. so i (omega (arith, low))) j (omega (arith, less, apart)) not is)
]
  where
    by : (t u : Bool) → (t ≡ true → u ≡ true) → lacking n g < lacking n f → (if u then 0 else 1) + lacking n g < (if t then 0 else 1) + lacking n f
    by true true so few = omega (arith, few)
    by true false so few = absurd (let no : false ≡ true = so refl in cc)
    by false true so few = omega (arith, few)
    by false false so few = omega (arith, few)
