-- The offsets below a number that pass a test.
use Rattle.std.proofs.Common.{arith, ◌≡◌, ◌⊎◌, ◌<◌, ◌≤◌, ◌+◌, ◌∷◌, ℕ, ap, Bool, true, false, zero, suc, [], refl, sym, subst, inl, inr}
use Rattle.std.specs.List.{Contains}
use Rattle.std.proofs.lemmas.Bool.{cases_lt}
use Rattle.std.proofs.lemmas.List.Elements.{Contains-append_left, Contains-append_right}
use Rattle.record_bytes.specs.Naming.{offsets_below}

alone : (n : ℕ) → Contains (n ∷ []) n
alone n = (0, omega arith, refl)

module _ (p : ℕ → Bool) where
  last-within : (n : ℕ) (b : Bool) → p n ≡ b → p n ≡ true → Contains (offsets_below p (suc n)) n
  last-within n true is ok = rw is (Contains-append_right (offsets_below p n) (n ∷ []) n (alone n))
  last-within n false is ok = absurd (cc)

  still-within : (n m : ℕ) (b : Bool) → p n ≡ b → Contains (offsets_below p n) m → Contains (offsets_below p (suc n)) m
  still-within n m true is has = rw is (Contains-append_left (offsets_below p n) (n ∷ []) m has)
  still-within n m false is has = rw is has

  -- each number below n that passes is among them
  pub offset-within : (n m : ℕ) → m < n → p m ≡ true → Contains (offsets_below p n) m
  offset-within zero m less ok = absurd (omega (arith, less))
  offset-within (suc n) m less ok = at (λ below. offset-within n m below ok) (cases_lt m n)
    where
      at : (m < n → Contains (offsets_below p n) m) → (m < n) ⊎ (n ≤ m) → Contains (offsets_below p (suc n)) m
      at earlier (inl below) = still-within n m (p n) refl (earlier below)
      at earlier (inr above) =
          let same : n ≡ m = omega (arith, less, above) in
          subst (λ (k : ℕ). Contains (offsets_below p (suc n)) k) same
          (last-within n (p n) refl (subst (λ (k : ℕ). p k ≡ true) (sym same) ok))

  -- where there is one of them, a number below n passes
  pub some-offset : (n : ℕ) → (offsets_below p n ≡ [] → ⊥) → (m : ℕ) × (m < n) × (p m ≡ true)
  some-offset zero some = absurd (some refl)
  some-offset (suc n) some = at (some-offset n) (p n) refl
    where
      more : (m : ℕ) × (m < n) × (p m ≡ true) → (m : ℕ) × (m < suc n) × (p m ≡ true)
      more (m, less, ok) = (m, omega (arith, less), ok)

      at : ((offsets_below p n ≡ [] → ⊥) → (m : ℕ) × (m < n) × (p m ≡ true)) → (b : Bool) → p n ≡ b → (m : ℕ) × (m < suc n) × (p m ≡ true)
      at earlier true is = (n, omega arith, is)
      at earlier false is = more (earlier (λ none. some (rw is none)))

-- where no number from e on passes, a greater bound adds none
pub none-more : (p : ℕ → Bool) (e k : ℕ) → ((b : ℕ) → e ≤ b → b < e + k → p b ≡ false) → offsets_below p (e + k) ≡ offsets_below p e
none-more p e zero none = ap (offsets_below p) (let same : e + zero ≡ e = omega arith in same)
none-more p e (suc k) none =
    let next : e + suc k ≡ suc (e + k) = omega arith in
    let last : p (e + k) ≡ false = none (e + k) (omega arith) (omega arith) in
    let before = none-more p e k (λ b from below. none b from (omega (arith, below))) in
    rw next (rw last before)
