-- The queues that a hart lacks, as a list.
use Rattle.std.proofs.Common.{ℕ, zero, suc, ◌<◌, ◌≤◌, ◌≡◌, ◌&&◌, ◌||◌, not, inl, inr, if◌then◌else◌, Bool, true, false, List, [], ◌∷◌, refl, sym, ◌∙◌, ap}
use Rattle.std.proofs.Common.{arith}
use Rattle.std.proofs.lemmas.Bool.{and_parts, cases_eq, eq-eqb, ne_eqb}
use Rattle.queue_certificates.specs.{QueueCertificate, all_below}
use Rattle.queue_progress.specs.Harts.{is_among, is_side, each_lacking}

-- those of the first n of which it isn't so, and these
abbrev pub lacking-list : ℕ → (ℕ → Bool) → List ℕ → List ℕ
lacking-list zero f xs = xs
lacking-list (suc n) f xs = lacking-list n f (if f n then xs else n ∷ xs)

-- numbers from n on are among them as before
later-among : (n : ℕ) (f : ℕ → Bool) (xs : List ℕ) (i : ℕ) → n ≤ i → is_among (lacking-list n f xs) i ≡ is_among xs i
later-among zero f xs i low = refl
later-among (suc n) f xs i low = later-among n f (if f n then xs else n ∷ xs) i (omega (arith, low)) ∙ by (f n)
  where
    by : (t : Bool) → is_among (if t then xs else n ∷ xs) i ≡ is_among xs i
    by true = refl
    by false = ap (λ u. u || is_among xs i) (ne_eqb n i (λ same. absurd (omega (arith, same, low))))

-- and of the others those of which it isn't so
pub among-list : (n : ℕ) (f : ℕ → Bool) (xs : List ℕ) → ((i : ℕ) → i < n → is_among xs i ≡ false) → (i : ℕ) → i < n
    → is_among (lacking-list n f xs) i ≡ not (f i)
among-list zero f xs none i less = absurd (omega (arith, less))
among-list (suc n) f xs none i less = elim (cases_eq i n) [
  | inl same ↦ ap (is_among (lacking-list n f (if f n then xs else n ∷ xs))) same
      ∙ later-among n f (if f n then xs else n ∷ xs) n (omega arith) ∙ here (f n) refl ∙ ap (λ j. not (f j)) (sym same)
  | inr apart ↦ among-list n f (if f n then xs else n ∷ xs) (λ j low. without (f n) j low) i (omega (arith, less, apart))
]
  where
    here : (t : Bool) → f n ≡ t → is_among (if t then xs else n ∷ xs) n ≡ not (f n)
    here true is = none n (omega arith) ∙ sym (ap not is)
    here false is = ap (λ u. u || is_among xs n) (eq-eqb n n refl) ∙ sym (ap not is)

    without : (t : Bool) (j : ℕ) → j < n → is_among (if t then xs else n ∷ xs) j ≡ false
    without true j low = none j (omega (arith, low))
    without false j low = ap (λ u. u || is_among xs j) (ne_eqb n j (λ same. absurd (omega (arith, same, low)))) ∙ none j (omega (arith, low))

pub turned : (a b : Bool) → a ≡ not b → b ≡ not a
turned a true is = sym (ap not is)
turned a false is = sym (ap not is)

never-empty : (n : ℕ) (f : ℕ → Bool) (x : ℕ) (xs : List ℕ) → lacking-list n f (x ∷ xs) ≡ [] → ⊥
never-empty zero f x xs is = absurd (cc)
never-empty (suc n) f x xs is = by (f n) is (never-empty n f x xs) (never-empty n f n (x ∷ xs))
  where
    by : (t : Bool) → lacking-list n f (if t then x ∷ xs else n ∷ (x ∷ xs)) ≡ [] → (lacking-list n f (x ∷ xs) ≡ [] → ⊥)
        → (lacking-list n f (n ∷ (x ∷ xs)) ≡ [] → ⊥) → ⊥
    by true is same more = same is
    by false is same more = more is

-- where it isn't so of all, there are some
pub some-lacking : (n : ℕ) (f : ℕ → Bool) (xs : List ℕ) → all_below n f ≡ false → lacking-list n f xs ≡ [] → ⊥
some-lacking zero f xs lacks is = absurd (cc)
some-lacking (suc n) f xs lacks is = by (f n) lacks is (some-lacking n f xs)
  where
    by : (t : Bool) → (t && all_below n f) ≡ false → lacking-list n f (if t then xs else n ∷ xs) ≡ []
        → (all_below n f ≡ false → lacking-list n f xs ≡ [] → ⊥) → ⊥
    by true lacks is before = before lacks is
    by false lacks is before = never-empty n f n xs is

chosen : (t : Bool) {u : Bool} → t ≡ true → (if t then u else true) ≡ true → u ≡ true
chosen true is so = so
chosen false is so = absurd (cc)

-- what is so where it lacks any is so where it lacks these
pub each-at : (c : QueueCertificate) (h n : ℕ) (f : ℕ → Bool) (xs : List ℕ) (Is : List ℕ → Bool)
    → ((i : ℕ) → i < n → f i ≡ false → is_side c h i ≡ true) → each_lacking c h n xs Is ≡ true → (lacking-list n f xs ≡ [] → ⊥)
    → Is (lacking-list n f xs) ≡ true
each-at c h zero f [] Is sides all some = absurd (some refl)
each-at c h zero f (x ∷ xs) Is sides all some = all
each-at c h (suc n) f xs Is sides all some = by (f n) refl some (λ ys each. each-at c h n f ys Is (λ i less. sides i (omega (arith, less))) each)
  where
    both : (each_lacking c h n xs Is ≡ true) × ((if is_side c h n then each_lacking c h n (n ∷ xs) Is else true) ≡ true)
    both = and_parts (each_lacking c h n xs Is) (if is_side c h n then each_lacking c h n (n ∷ xs) Is else true) all

    by : (t : Bool) → f n ≡ t → (lacking-list n f (if t then xs else n ∷ xs) ≡ [] → ⊥)
        → ((ys : List ℕ) → each_lacking c h n ys Is ≡ true → (lacking-list n f ys ≡ [] → ⊥) → Is (lacking-list n f ys) ≡ true)
        → Is (lacking-list n f (if t then xs else n ∷ xs)) ≡ true
    by true is some rest = rest xs both.0 some
    by false is some rest = rest (n ∷ xs) (chosen (is_side c h n) (sides n (omega arith) is) both.1) some
