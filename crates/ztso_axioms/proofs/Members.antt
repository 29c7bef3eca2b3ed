-- Which places a list names, and what a filter of it names.
use Rattle.std.proofs.Common.{◌≡◌, ℕ, zero, suc, ◌+◌, ◌<◌, Bool, true, false, not, ◌&&◌, if◌then◌else◌, List, [], ◌∷◌, ◌++◌, get_or, refl, sym, ◌∙◌, ap, arith}
use Rattle.std.proofs.Common.{length, append-nil, append_assoc}
use Rattle.std.specs.Prelude.{filter, option_to_list}
use Rattle.std.specs.List.{AllPass, slice_get}
use Rattle.std.proofs.lemmas.Bool.{eqb-true, eq-eqb, ne_eqb, not-true, or_left, or_right}
use Rattle.step_machine.specs.declared.events.Entry.{Entry}
use Rattle.ztso_axioms.specs.Operations.{is_at}
use Rattle.ztso_axioms.specs.Axioms.{times_named, before_first, is_named, is_before}
use Rattle.ztso_axioms.specs.Performed.{places_of, performed_by, performed_after}
use Rattle.ztso_axioms.proofs.Listing.{index_of, named_at, times-none, named-none, named-some, times-some}
use Rattle.step_machine.specs.Entries.{land_of, lands}
use Rattle.step_machine.proofs.Appended.{lands-append}
use Rattle.std.proofs.lemmas.List.Elements.{All-cons, All-head, All-nil, All-tail}

-- the place passes the test
abbrev pub IsPassed : (ℕ → Bool) → ℕ → Type 0
IsPassed test x = test x ≡ true

-- each place that the list names passes: for each name, and for each index
pub passes_by_name : (test : ℕ → Bool) (xs : List ℕ) → ((x : ℕ) → is_named x xs ≡ true → test x ≡ true) → AllPass test xs
passes_by_name test xs each k d lt = each (get_or xs k d) (named_at xs k d lt)

pub named_passes : (test : ℕ → Bool) (xs : List ℕ) (x : ℕ) → AllPass test xs → is_named x xs ≡ true → test x ≡ true
named_passes test xs x each is = grind (arith, index_of)

pub AllPass-get : (test : ℕ → Bool) (xs : List ℕ) (k : ℕ) → AllPass test xs → AllPass test (option_to_list (slice_get xs k))
AllPass-get test [] k each = each
AllPass-get test (x ∷ xs) zero each = All-cons (IsPassed test) x [] (All-head (IsPassed test) x xs each) (All-nil (IsPassed test))
AllPass-get test (x ∷ xs) (suc k) each = AllPass-get test xs k (All-tail (IsPassed test) x xs each)

-- filters

pub filter-every : (test : ℕ → Bool) (xs : List ℕ) → AllPass test xs → filter test xs ≡ xs
filter-every test [] each = refl
filter-every test (x ∷ xs) each =
    ap (λ b. if b then x ∷ filter test xs else filter test xs) (All-head (IsPassed test) x xs each)
    ∙ ap (λ zs. x ∷ zs) (filter-every test xs (All-tail (IsPassed test) x xs each))

pub filter-none : (test : ℕ → Bool) (xs : List ℕ) → AllPass (λ x. not (test x)) xs → filter test xs ≡ []
filter-none test [] each = refl
filter-none test (x ∷ xs) each =
    ap (λ b. if b then x ∷ filter test xs else filter test xs) (not-true (test x) (All-head (IsPassed (λ y. not (test y))) x xs each))
    ∙ filter-none test xs (All-tail (IsPassed (λ y. not (test y))) x xs each)

-- two tests that agree at each place that the list names
pub filter-same : (test other : ℕ → Bool) (xs : List ℕ) → ((x : ℕ) → is_named x xs ≡ true → test x ≡ other x) → filter test xs ≡ filter other xs
filter-same test other [] agree = refl
filter-same test other (x ∷ xs) agree = grind (arith, or_left, eq-eqb, or_right, filter-same test other xs)

pub filter-both : (test other : ℕ → Bool) (xs : List ℕ) → filter (λ x. test x && other x) xs ≡ filter other (filter test xs)
filter-both test other [] = refl
filter-both test other (x ∷ xs) = grind (arith, filter-both test other xs)

pub times-filter : (test : ℕ → Bool) (p : ℕ) (xs : List ℕ) → test p ≡ true → times_named p (filter test xs) ≡ times_named p xs
times-filter test p [] pass = refl
times-filter test p (x ∷ xs) pass = grind (arith, times-filter test p xs pass, eqb-true x p)

pub named-times : (p : ℕ) (xs ys : List ℕ) → times_named p xs ≡ times_named p ys → is_named p xs ≡ is_named p ys
named-times p xs ys same = grind (arith, named-none p xs, times-none p ys, times-some p ys, named-some p xs)

pub named-filter : (test : ℕ → Bool) (p : ℕ) (xs : List ℕ) → test p ≡ true → is_named p (filter test xs) ≡ is_named p xs
named-filter test p xs pass = named-times p (filter test xs) xs (times-filter test p xs pass)

-- what stands before a place that passes, among those that pass
pub before-filter : (test : ℕ → Bool) (q : ℕ) (xs : List ℕ) → test q ≡ true → before_first q (filter test xs) ≡ filter test (before_first q xs)
before-filter test q [] pass = refl
before-filter test q (x ∷ xs) pass = grind (arith, before-filter test q xs pass, eqb-true x q)

pub is_before-filter : (test : ℕ → Bool) (p q : ℕ) (xs : List ℕ) → test p ≡ true → test q ≡ true → is_before (filter test xs) p q ≡ is_before xs p q
is_before-filter test p q xs pass_p pass_q = ap (is_named p) (before-filter test q xs pass_q) ∙ named-filter test p (before_first q xs) pass_p

-- a place that the front names is before one that the front does not name
pub before-split : (xs ys : List ℕ) (p q : ℕ) → is_named p xs ≡ true → is_named q xs ≡ false → is_before (xs ++ ys) p q ≡ true
before-split [] ys p q some none = cc
before-split (x ∷ xs) ys p q some none = grind (arith, before-split xs ys p q)

-- how often the places that pass are named

pub times-low : (test : Entry → Bool) (p n : ℕ) (es : List Entry) → p < n → times_named p (places_of test n es) ≡ 0
times-low test p n [] lt = refl
times-low test p n (e ∷ es) lt = grind (arith, ne_eqb, times-low test p (suc n) es)

pub times-places : (test : Entry → Bool) (n i : ℕ) (es : List Entry) → times_named (n + i) (places_of test n es) ≡ (if is_at test es i then 1 else 0)
times-places test n i [] = refl
times-places test n zero (e ∷ es) = grind (arith, eq-eqb, times-low)
times-places test n (suc i) (e ∷ es) = grind (arith, ne_eqb, times-places test (suc n) i es)

pub times-all_places : (test : Entry → Bool) (p : ℕ) (es : List Entry) → times_named p (places_of test 0 es) ≡ (if is_at test es p then 1 else 0)
times-all_places test p es = let same : p ≡ 0 + p = omega arith in ap (λ k. times_named k (places_of test 0 es)) same ∙ times-places test 0 p es

pub named-places : (test : Entry → Bool) (p : ℕ) (es : List Entry) → is_named p (places_of test 0 es) ≡ is_at test es p
named-places test p es = grind (arith, times-all_places test p es, named-some p (places_of test 0 es), named-none p (places_of test 0 es))

pub AllPass-places : (test : Entry → Bool) (es : List Entry) → AllPass (is_at test es) (places_of test 0 es)
AllPass-places test es = passes_by_name (is_at test es) (places_of test 0 es) (λ x is. sym (named-places test x es) ∙ is)

-- ---- the places of a hart's stores, and what the entries of a list perform, over one more entry

-- the place of an entry that passes a test
abbrev pub place_of : (Entry → Bool) → ℕ → Entry → List ℕ
place_of test n e = if test e then n ∷ [] else []

pub places_of-cons : (test : Entry → Bool) (n : ℕ) (e : Entry) (es : List Entry) → places_of test n (e ∷ es) ≡ place_of test n e ++ places_of test (suc n) es
places_of-cons test n e es = elim (test e) as
    (λ b. (if b then n ∷ places_of test (suc n) es else places_of test (suc n) es) ≡ (if b then n ∷ [] else [])
    ++ places_of test (suc n) es) [ true ↦ refl | false ↦ refl ]

pub places_of-append : (test : Entry → Bool) (n : ℕ) (es fs : List Entry)
    → places_of test n (es ++ fs) ≡ places_of test n es ++ places_of test (n + length es) fs
places_of-append test n [] fs = let same : n ≡ n + 0 = omega arith in ap (λ k. places_of test k fs) same
places_of-append test n (e ∷ es) fs = grind (arith, places_of-cons, append_assoc, places_of-append test (suc n) es fs)

-- the places among a list's front, and then those among the rest
pub places_of-split : (test : Entry → Bool) (es fs : List Entry) → places_of test 0 (es ++ fs) ≡ places_of test 0 es ++ places_of test (length es) fs
places_of-split test es fs = let same : 0 + length es ≡ length es = omega arith in
    places_of-append test 0 es fs ∙ ap (λ k. places_of test 0 es ++ places_of test k fs) same

pub performed_after-append : (all before es fs : List Entry)
    → performed_after all before (es ++ fs) ≡ performed_after all before es ++ performed_after all (before ++ es) fs
performed_after-append all before [] fs = ap (λ b. performed_after all b fs) (sym (append-nil before))
performed_after-append all before (e ∷ es) fs = grind (arith, append_assoc, performed_after-append all (before ++ e ∷ []) es fs)

pub performed-last : (all es : List Entry) (e : Entry) → performed_after all [] (es ++ e ∷ []) ≡ performed_after all [] es ++ performed_by all es e
performed-last all es e = performed_after-append all [] es (e ∷ []) ∙ ap (λ t. performed_after all [] es ++ t) (append-nil (performed_by all es e))

pub lands-last : (h : ℕ) (es : List Entry) (e : Entry) → lands h (es ++ e ∷ []) ≡ lands h es + land_of h e
lands-last h es e = let one : lands h (e ∷ []) ≡ land_of h e = omega arith in lands-append h es (e ∷ []) ∙ ap (λ n. lands h es + n) one
