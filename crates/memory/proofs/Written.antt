-- The words up to the last that differs from the opening's.
use Rattle.std.proofs.Common.{◌≡◌, ℕ, zero, suc, ◌≤◌, Bool, true, false, List, [], ◌∷◌, ◌++◌, length, take, drop, refl, sym, ◌∙◌, ap, arith, eq-eqb, eqb-true}
use Rattle.std.proofs.Common.{◌+◌, ◌-◌, ◌<◌, set, subst}
use Rattle.std.specs.Prelude.{◌==◌, slice_index}
use Rattle.memory.specs.Words.{unless_untouched, written_since, IsMemory}
use Rattle.std.proofs.lemmas.List.{drop-set-lt, drop-drop, length-set}

-- before the opening's words that they leave, they are all words

back_one : (f w : ℕ) (first words rest : List ℕ) (same : Bool) → (f == w) ≡ same → rest ++ drop (length rest) first ≡ words
    → unless_untouched same w rest ++ drop (length (unless_untouched same w rest)) (f ∷ first) ≡ w ∷ words
back_one f w first words [] true e all = let f_is : f ≡ w = eqb-true f w e in ap (λ x. x ∷ first) f_is ∙ ap (λ xs. w ∷ xs) all
back_one f w first words (x ∷ xs) true e all = ap (λ ys. w ∷ ys) all
back_one f w first words rest false e all = ap (λ ys. w ∷ ys) all

pub written_back : (first words : List ℕ) → length first ≡ length words
    → written_since first words ++ drop (length (written_since first words)) first ≡ words
written_back [] [] same = refl
written_back (f ∷ first) (w ∷ words) same = back_one f w first words (written_since first words) (f == w) refl (written_back first words (omega arith))
written_back x y same = cc

pub written_few : (first words : List ℕ) → length (written_since first words) ≤ length words
written_few [] words = omega arith
written_few (f ∷ first) [] = omega arith
written_few (f ∷ first) (w ∷ words) = few (f == w) (written_since first words) (written_few first words)
  where
    few : (same : Bool) (rest : List ℕ) → length rest ≤ length words → length (unless_untouched same w rest) ≤ suc (length words)
    few true [] le = omega arith
    few true (x ∷ xs) le = omega arith
    few false rest le = omega arith

-- they are found from the end

written_none : (first words : List ℕ) → words ≡ first → written_since first words ≡ []
written_none [] words same = refl
written_none (f ∷ first) [] same = refl
written_none (f ∷ first) (w ∷ words) same =
    let head : f ≡ w = cc in
    let tail : words ≡ first = cc in
    ap (λ b. unless_untouched b w (written_since first words)) (eq-eqb f w head) ∙ ap (unless_untouched true w) (written_none first words tail)

one_more : (f w n : ℕ) (words rest : List ℕ) → n ≤ length words → take n words ≡ rest → (0 ≡ n → w ≡ f → ⊥)
    → w ∷ take n words ≡ unless_untouched (f == w) w rest
one_more f w zero words rest le is last = by (f == w) refl
  where
    by : (b : Bool) → (f == w) ≡ b → w ∷ [] ≡ unless_untouched b w rest
    by true e = absurd (last refl (sym (eqb-true f w e)))
    by false e = ap (λ xs. w ∷ xs) is
one_more f w (suc n) (x ∷ words) rest le is last = by (f == w)
  where
    by : (b : Bool) → w ∷ x ∷ take n words ≡ unless_untouched b w rest
    by true = ap (unless_untouched true w) is
    by false = ap (λ xs. w ∷ xs) is
one_more f w (suc n) [] rest le is last = absurd (omega arith)

pub written_is : (first words : List ℕ) (n : ℕ) → length first ≡ length words → n ≤ length words → drop n words ≡ drop n first
    → ((m : ℕ) → suc m ≡ n → slice_index words m ≡ slice_index first m → ⊥) → take n words ≡ written_since first words
written_is [] [] zero same le after last = refl
written_is [] [] (suc n) same le after last = refl
written_is (f ∷ first) (w ∷ words) zero same le after last = sym (written_none (f ∷ first) (w ∷ words) after)
written_is (f ∷ first) (w ∷ words) (suc n) same le after last =
    one_more f w n words (written_since first words) (omega arith)
    (written_is first words n (omega arith) (omega arith) after (λ m is. last (suc m) (ap suc is)))
    (λ none is. last zero (ap suc none) is)
written_is x y n same le after last = cc

-- ---- from some place on the words are those of the opening: so it stays

later : (n m : ℕ) (xs ys : List ℕ) → n ≤ m → drop n xs ≡ drop n ys → drop m xs ≡ drop m ys
later n m xs ys le same =
    let k : ℕ = m - n in
    let is : n + k ≡ m = omega arith in
    subst (λ j. drop j xs ≡ drop j ys) is (sym (drop-drop k n xs) ∙ ap (drop k) same ∙ drop-drop k n ys)

-- a word before the place is written
pub written_before : (M : ℕ) (words first : List ℕ) (n m i v : ℕ) → IsMemory M words first n → n ≤ m → i < m → m ≤ M → IsMemory M (set words i v) first m
written_before M words first n m i v kept le within fits = grind (arith, length-set, drop-set-lt, later)
