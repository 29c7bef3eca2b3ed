-- Lists of places: how often they name one, and what stands before it.
use Rattle.std.proofs.Common.{◌≡◌, ℕ, suc, ◌+◌, ◌-◌, ◌≤◌, ◌<◌, ◌==◌, Bool, true, false, ◌||◌, if◌then◌else◌, nat_lt, List, [], ◌∷◌, ◌++◌, length, take, drop}
use Rattle.std.proofs.Common.{get_or, refl, sym, ◌∙◌, ap, subst, arith, length-take, length-drop, get_or-take, get_or-drop}
use Rattle.std.proofs.lemmas.Bool.{eqb-true, eq-eqb, ne_eqb, ltb-true, ltb-false}
use Rattle.std.proofs.lemmas.List.{take-append-drop, drop_more, take_more, get_or_read, get_or_default}
use Rattle.std.proofs.lemmas.List.Folds.{list_any-append, list_any_at, Any-from_list_any}
use Rattle.ztso_axioms.specs.Axioms.{times_named, before_first, is_named, is_before}

-- no place is named twice
pub record Once (gs : List ℕ) : Type 0 where
  pub once : (p : ℕ) → times_named p gs ≤ 1

pub times-append : (p : ℕ) (xs ys : List ℕ) → times_named p (xs ++ ys) ≡ times_named p xs + times_named p ys
times-append p [] ys = omega arith
times-append p (x ∷ xs) ys = grind (arith, times-append p xs ys)

pub named-append : (p : ℕ) (xs ys : List ℕ) → is_named p (xs ++ ys) ≡ (is_named p xs || is_named p ys)
named-append p xs ys = list_any-append (λ g. g == p) xs ys

pub times-none : (p : ℕ) (xs : List ℕ) → is_named p xs ≡ false → times_named p xs ≡ 0
times-none p [] none = refl
times-none p (x ∷ xs) none = grind (arith, times-none p xs)

pub named-none : (p : ℕ) (xs : List ℕ) → times_named p xs ≡ 0 → is_named p xs ≡ false
named-none p [] none = refl
named-none p (x ∷ xs) none = grind (arith, named-none p xs)

pub times-some : (p : ℕ) (xs : List ℕ) → is_named p xs ≡ true → 1 ≤ times_named p xs
times-some p [] some = cc
times-some p (x ∷ xs) some = grind (arith, times-some p xs)

pub named-some : (p : ℕ) (xs : List ℕ) → 1 ≤ times_named p xs → is_named p xs ≡ true
named-some p xs some = grind (arith, times-none p xs)

-- a place at an index is named
pub named_at : (xs : List ℕ) (i d : ℕ) → i < length xs → is_named (get_or xs i d) xs ≡ true
named_at xs i d lt = list_any_at (λ g. g == get_or xs i d) xs i d lt (eq-eqb (get_or xs i d) (get_or xs i d) refl)

-- a place that is named stands at an index
pub index_of : (p : ℕ) (xs : List ℕ) → is_named p xs ≡ true → (i : ℕ) × (i < length xs) × (get_or xs i 0 ≡ p)
index_of p xs some = grind (arith, Any-from_list_any, get_or_default, eqb-true)

-- what stands before a place that the front does not name
pub before-at : (q : ℕ) (xs ys : List ℕ) → times_named q xs ≡ 0 → before_first q (xs ++ q ∷ ys) ≡ xs
before-at q [] ys none = ap (λ b. if b then [] else q ∷ before_first q ys) (eq-eqb q q refl)
before-at q (x ∷ xs) ys none = grind (arith, before-at q xs ys)

pub times-self : (q : ℕ) (ys : List ℕ) → times_named q (q ∷ ys) ≡ suc (times_named q ys)
times-self q ys = ap (λ b. if b then suc (times_named q ys) else times_named q ys) (eq-eqb q q refl)

pub split_at : (gs : List ℕ) (i : ℕ) → i < length gs → gs ≡ take i gs ++ get_or gs i 0 ∷ drop (i + 1) gs
split_at gs i lt = sym (take-append-drop i gs) ∙ ap (λ zs. take i gs ++ zs) (drop_more gs i 0 lt)

pub before-index : (gs : List ℕ) (i : ℕ) → Once gs → i < length gs → before_first (get_or gs i 0) gs ≡ take i gs
before-index gs i o lt =
    let q : ℕ = get_or gs i 0 in
    let few : times_named q gs ≤ 1 = o.once q in
    let whole : times_named q gs ≡ times_named q (take i gs) + times_named q (q ∷ drop (i + 1) gs) =
    ap (times_named q) (split_at gs i lt) ∙ times-append q (take i gs) (q ∷ drop (i + 1) gs) in
    let here : times_named q (q ∷ drop (i + 1) gs) ≡ suc (times_named q (drop (i + 1) gs)) = times-self q (drop (i + 1) gs) in
    ap (before_first q) (split_at gs i lt) ∙ before-at q (take i gs) (drop (i + 1) gs) (omega arith)

-- in a list that names no place twice, what stands before is what has the lesser index
pub is_before-index : (gs : List ℕ) (j i : ℕ) → Once gs → j < length gs → i < length gs → is_before gs (get_or gs j 0) (get_or gs i 0) ≡ nat_lt j i
is_before-index gs j i o lt_j lt_i = ap (is_named (get_or gs j 0)) (before-index gs i o lt_i) ∙ at (nat_lt j i) refl
  where
    at : (b : Bool) → nat_lt j i ≡ b → is_named (get_or gs j 0) (take i gs) ≡ b
    at true is =
        let lt : j < i = ltb-true j i is in
        let within : j < length (take i gs) = omega (arith, length-take i gs) in
        subst (λ (x : ℕ). is_named x (take i gs) ≡ true) (get_or-take i gs j 0 lt) (named_at (take i gs) j 0 within)
    at false is =
        let le : i ≤ j = ltb-false j i is in
        let within : j - i < length (drop i gs) = omega (arith, length-drop i gs) in
        let there : i + (j - i) ≡ j = omega arith in
        let same : get_or (drop i gs) (j - i) 0 ≡ get_or gs j 0 = get_or-drop i gs (j - i) 0 ∙ ap (λ k. get_or gs k 0) there in
        let back : is_named (get_or gs j 0) (drop i gs) ≡ true =
        subst (λ (x : ℕ). is_named x (drop i gs) ≡ true) same (named_at (drop i gs) (j - i) 0 within) in
        let some : 1 ≤ times_named (get_or gs j 0) (drop i gs) = times-some (get_or gs j 0) (drop i gs) back in
        let whole : times_named (get_or gs j 0) gs
        ≡ times_named (get_or gs j 0) (take i gs) + times_named (get_or gs j 0) (drop i gs) =
        ap (times_named (get_or gs j 0)) (sym (take-append-drop i gs))
        ∙ times-append (get_or gs j 0) (take i gs) (drop i gs) in
        let few : times_named (get_or gs j 0) gs ≤ 1 = o.once (get_or gs j 0) in
        named-none (get_or gs j 0) (take i gs) (omega arith)

-- one more place looked at
pub times_more : (p : ℕ) (xs : List ℕ) (i : ℕ) (b : Bool) → i < length xs → (get_or xs i 0 == p) ≡ b
    → times_named p (take (i + 1) xs) ≡ times_named p (take i xs) + (if b then 1 else 0)
times_more p xs i b lt is = ap (times_named p) (take_more xs i 0 lt)
    ∙ times-append p (take i xs) (get_or xs i 0 ∷ []) ∙ ap (λ c. times_named p (take i xs) + (if c then 1 else 0)) is

pub times_hit : (p : ℕ) (xs : List ℕ) (i t n x : ℕ) → i < length xs → x ≡ get_or xs i x → x ≡ p
    → t ≡ times_named p (take i xs) → n ≡ t + 1 → n ≡ times_named p (take (i + 1) xs)
times_hit p xs i t n x lt read is before_it after = grind (arith, times_more p xs i true lt, get_or_read xs i x lt read 0, eq-eqb (get_or xs i 0) p)

pub times_missed : (p : ℕ) (xs : List ℕ) (i t n x : ℕ) → i < length xs → x ≡ get_or xs i x → (x ≡ p → ⊥)
    → t ≡ times_named p (take i xs) → n ≡ t → n ≡ times_named p (take (i + 1) xs)
times_missed p xs i t n x lt read not before_it after = grind (arith, times_more p xs i false lt, get_or_read xs i x lt read 0, ne_eqb (get_or xs i 0) p)
