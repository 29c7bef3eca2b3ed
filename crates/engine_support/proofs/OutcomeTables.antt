-- Tables of runs: what is counted of them, and that they have one table.
use Rattle.std.proofs.Common.{◌≡◌, ℕ, ◌+◌, ◌<◌, Bool, true, false, cond, ◌||◌, List, [], ◌∷◌, ◌++◌, length, count_by, All, Option, Some, None, refl, sym, ap}
use Rattle.std.proofs.Common.{ap₂, ◌∙◌, arith}
use Rattle.std.specs.Prelude.{◌↔◌, is_some, Contains, IfSome, IsTrue}
use Rattle.std.specs.BTreeSet.{BTreeSet, contains}
use Rattle.std.specs.List.{flat_map, list_any}
use Rattle.std.specs.Ordering.{nat_cmp}
use Rattle.std.specs.Cmp.Lexicographic.{slice_cmp, nat_list_cmp_total}
use Rattle.std.proofs.lemmas.List.Elements.{All-contains_itself, All-tail}
use Rattle.std.proofs.lemmas.List.Folds.{list_any-append}
use Rattle.std.proofs.lemmas.List.Sums.{sum_by-append, sum_by-cons, count_by-le-length}
use Rattle.std.proofs.lemmas.Map.Lookups.{btree_set_from_contains, exact_bytes}
use Rattle.std.proofs.lemmas.Map.Views.{btree_set_contains_iff}
use Rattle.litmus.specs.LitmusTests.{LitmusTest}
use Rattle.engine_support.specs.{AreOutcomes, line_of, AreCountedLines, Counted, counted_both, counted_line, seen_of}

-- ---- counts of a list and one element more

or_false : (b c : Bool) → (b || (c || false)) ≡ (b || c)
or_false b c = grind arith

pub any_more : {X : Type 0} (p : X → Bool) (xs : List X) (x : X) → list_any p (xs ++ x ∷ []) ≡ (list_any p xs || p x)
any_more p xs x = list_any-append p xs (x ∷ []) ∙ or_false (list_any p xs) (p x)

count_one : {X : Type 0} (p : X → Bool) (x : X) → count_by p (x ∷ []) ≡ cond (p x) 1 0
count_one p x = let e = sum_by-cons (λ y. cond (p y) 1 0) x [] in omega (arith, e)

pub count_more : {X : Type 0} (p : X → Bool) (xs : List X) (x : X) → count_by p (xs ++ x ∷ []) ≡ count_by p xs + cond (p x) 1 0
count_more p xs x = sum_by-append (λ y. cond (p y) 1 0) xs (x ∷ []) ∙ ap (λ (n : ℕ). count_by p xs + n) (count_one p x)

pub none_counted : {X : Type 0} (p : X → Bool) (xs : List X) → list_any p xs ≡ false → count_by p xs ≡ 0
none_counted p [] e = refl
none_counted {X} p (x ∷ xs) e = grind (arith, count_by, sum_by-cons, none_counted p xs)

-- ---- what is counted of an outcome

some_where : (b : Bool) (x : Counted) → is_some (cond b (Some x) None) ≡ b
some_where b x = grind arith

few_where : (b : Bool) (n most : ℕ) (end : List ℕ) → n < most → IfSome {T = Counted} (cond b (Some (n, end)) None) (λ seen. seen.0 < most)
few_where b n most end few = grind arith

once_more : (b c : Bool) (n : ℕ) (old new end : List ℕ) → (b ≡ false → n ≡ 0) → (b ≡ false → c ≡ true → new ≡ end) → (b ≡ true → new ≡ old)
    → cond (b || c) (Some (n + cond c 1 0, new)) None
    ≡ cond c (counted_both (cond b (Some (n, old)) None) (Some (1, end))) (cond b (Some (n, old)) None)
once_more b c n old new end none first kept = grind arith

twice : (b c : Bool) (n m : ℕ) (front back both : List ℕ) → (b ≡ false → n ≡ 0) → (c ≡ false → m ≡ 0)
    → (b ≡ false → c ≡ true → both ≡ back) → (b ≡ true → both ≡ front)
    → cond (b || c) (Some (n + m, both)) None ≡ counted_both (cond b (Some (n, front)) None) (cond c (Some (m, back)) None)
twice b c n m front back both none nothing later first = grind arith

module _ {X : Type 0} (gave : (outcome : List ℕ) → X → Bool) (end_of : (outcome : List ℕ) → List X → List ℕ) where
  -- nothing of no run
  pub seen_none : (outcome : List ℕ) → seen_of gave end_of [] outcome ≡ None
  unfolding seen_of
  seen_none outcome = refl

  -- of one run more
  pub seen_more : (runs : List X) (run : X) (outcome : List ℕ) (end : List ℕ)
      → (list_any (gave outcome) runs ≡ false → gave outcome run ≡ true → end_of outcome (runs ++ run ∷ []) ≡ end)
      → (list_any (gave outcome) runs ≡ true → end_of outcome (runs ++ run ∷ []) ≡ end_of outcome runs)
      → seen_of gave end_of (runs ++ run ∷ []) outcome
      ≡ cond (gave outcome run) (counted_both (seen_of gave end_of runs outcome) (Some (1, end))) (seen_of gave end_of runs outcome)
  unfolding seen_of
  seen_more runs run outcome end first kept = grind (arith, any_more, count_by, count_more, none_counted, once_more)

  -- of runs and then of later ones
  pub seen_both : (front back : List X) (outcome : List ℕ)
      → (list_any (gave outcome) front ≡ false → list_any (gave outcome) back ≡ true → end_of outcome (front ++ back) ≡ end_of outcome back)
      → (list_any (gave outcome) front ≡ true → end_of outcome (front ++ back) ≡ end_of outcome front)
      → seen_of gave end_of (front ++ back) outcome ≡ counted_both (seen_of gave end_of front outcome) (seen_of gave end_of back outcome)
  unfolding seen_of
  seen_both front back outcome later first = grind (arith, count_by, list_any-append, none_counted, sum_by-append, twice)

  -- no count is above the number of runs
  pub seen_few : (runs : List X) (outcome : List ℕ) (most : ℕ) → length runs < most
      → IfSome {T = Counted} (seen_of gave end_of runs outcome) (λ seen. seen.0 < most)
  unfolding seen_of
  seen_few runs outcome most few = grind (arith, count_by, count_by-le-length, few_where)

  -- ---- the lines of a table of some runs

  module _ (test : LitmusTest) (runs : List X) (counts_of : (outcome : List ℕ) → Option Counted) (text : List ℕ)
      (is : (outcome : List ℕ) → counts_of outcome ≡ seen_of gave end_of runs outcome) (lines : AreCountedLines test counts_of text) where
    counted_where : (outcome : List ℕ) → is_some (counts_of outcome) ≡ list_any (gave outcome) runs
    unfolding seen_of
    counted_where outcome = ap is_some (is outcome) ∙ some_where (list_any (gave outcome) runs) (count_by (gave outcome) runs, end_of outcome runs)

    pub are_outcomes : AreOutcomes gave runs lines.outcomes
    are_outcomes = record {
      ascending = lines.ascending;
      all = λ outcome. (
        λ there. sym (counted_where outcome) ∙ (lines.all outcome).0 there,
        λ some. (lines.all outcome).1 (counted_where outcome ∙ some),
      );
    }

    abbrev line_at : (outcome : List ℕ) → List ℕ
    line_at outcome = line_of test outcome (count_by (gave outcome) runs) (end_of outcome runs)

    line-is : (outcome : List ℕ) → Contains lines.outcomes outcome → counted_line test outcome (counts_of outcome) ≡ line_at outcome
    unfolding seen_of
    line-is outcome there = grind (arith, count_by, counted_where)

    lines_are : (outcomes : List (List ℕ)) → All (λ outcome. Contains lines.outcomes outcome) outcomes
        → flat_map (λ outcome. counted_line test outcome (counts_of outcome)) outcomes ≡ flat_map line_at outcomes
    lines_are [] there = refl
    lines_are (outcome ∷ outcomes) there =
        ap₂ (λ (line : List ℕ) (rest : List ℕ). line ++ rest) (line-is outcome (there 0 outcome (omega arith)))
        (lines_are outcomes (All-tail (λ (o : List ℕ). Contains lines.outcomes o) outcome outcomes there))

    pub table_is : text ≡ flat_map (λ outcome. line_of test outcome (count_by (gave outcome) runs) (end_of outcome runs)) lines.outcomes
    table_is = lines.text_is ∙ lines_are lines.outcomes (All-contains_itself lines.outcomes)

-- ---- one ascending list of the same elements

same_truth : (b c : Bool) → (IsTrue b → IsTrue c) → (IsTrue c → IsTrue b) → b ≡ c
same_truth b c there back = grind arith

abbrev set_of : List (List ℕ) → BTreeSet (List ℕ)
set_of xs = record { keys = xs }

shown_or_not : (xs : List (List ℕ)) (outcome : List ℕ) → IsTrue (contains (slice_cmp nat_cmp) (set_of xs) outcome) ↔ Contains xs outcome
shown_or_not xs outcome = btree_set_contains_iff nat_list_cmp_total exact_bytes (set_of xs) outcome

pub one_outcomes : {X : Type 0} (gave : (outcome : List ℕ) → X → Bool) (runs : List X) (xs ys : List (List ℕ))
    → AreOutcomes gave runs xs → AreOutcomes gave runs ys → xs ≡ ys
one_outcomes gave runs xs ys is other =
    btree_set_from_contains nat_list_cmp_total (set_of xs) (set_of ys) is.ascending other.ascending same exact_bytes
  where
    same : (outcome : List ℕ) → contains (slice_cmp nat_cmp) (set_of xs) outcome ≡ contains (slice_cmp nat_cmp) (set_of ys) outcome
    same outcome = same_truth (contains (slice_cmp nat_cmp) (set_of xs) outcome) (contains (slice_cmp nat_cmp) (set_of ys) outcome)
        (λ there. (shown_or_not ys outcome).1 ((other.all outcome).1 ((is.all outcome).0 ((shown_or_not xs outcome).0 there))))
        (λ there. (shown_or_not xs outcome).1 ((is.all outcome).1 ((other.all outcome).0 ((shown_or_not ys outcome).0 there))))
