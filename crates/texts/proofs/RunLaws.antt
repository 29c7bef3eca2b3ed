-- The runs of a list are the longest ones, and a text of them is written one element at a time.
use Rattle.std.proofs.Common.{◌≡◌, ◌≢◌, ℕ, zero, suc, ◌+◌, ◌<◌, ◌≤◌, Bool, true, false, List, [], ◌∷◌, ◌++◌, length, drop, replicate, get_or, Some, refl, sym}
use Rattle.std.proofs.Common.{ap, ◌∙◌, append_assoc, add-one, drop-cons, arith}
use Rattle.std.specs.Prelude.{Decides}
use Rattle.std.specs.List.{slice_get, AllByRecursion}
use Rattle.std.proofs.lemmas.Bool.Decides.{not_from_Decides}
use Rattle.std.proofs.lemmas.List.{replicate-append-replicate, drop_all}
use Rattle.texts.specs.Runs.{Repetition, with_repetition, repetitions_of, expanded, AreLongest}
use Rattle.texts.proofs.ResultLaws.{some_is}

module _ {E : Type 0} (same : E → E → Bool) (decides : (a b : E) → Decides (same a b) (a ≡ b)) where
  -- ---- what runs stand for

  expanded-joined : (run : Repetition E) (runs : List (Repetition E)) → expanded (with_repetition same run runs) ≡ replicate run.1 run.0 ++ expanded runs
  expanded-joined run [] = refl
  expanded-joined run (next ∷ runs) = go (same run.0 next.0) refl
    where
      go : (b : Bool) → same run.0 next.0 ≡ b
          → expanded (with_repetition same run (next ∷ runs)) ≡ replicate run.1 run.0
          ++ (replicate next.1 next.0 ++ expanded runs)
      go true is =
          rw is
          (ap (λ (front : List E). front ++ expanded runs) (sym (replicate-append-replicate run.1 next.1 run.0))
          ∙ append_assoc (replicate run.1 run.0) (replicate next.1 run.0) (expanded runs)
          ∙ ap (λ (e : E). replicate run.1 run.0 ++ (replicate next.1 e ++ expanded runs)) ((decides run.0 next.0).0 is))
      go false isnt = rw isnt refl

  pub expanded-runs_of : (elements : List E) → expanded (repetitions_of same elements) ≡ elements
  unfolding repetitions_of
  expanded-runs_of [] = refl
  expanded-runs_of (e ∷ elements) = expanded-joined (e, 1) (repetitions_of same elements) ∙ ap (λ (rest : List E). e ∷ rest) (expanded-runs_of elements)

  -- ---- no two could be one

  AreLongest-joined : (run : Repetition E) (runs : List (Repetition E)) → 0 < run.1 → AreLongest runs → AreLongest (with_repetition same run runs)
  AreLongest-joined run runs some longest = grind (arith, not_from_Decides)

  pub AreLongest-runs_of : (elements : List E) → AreLongest (repetitions_of same elements)
  unfolding repetitions_of
  AreLongest-runs_of [] = tt
  AreLongest-runs_of (e ∷ elements) = AreLongest-joined (e, 1) (repetitions_of same elements) (omega arith) (AreLongest-runs_of elements)

  -- ---- and there are no other longest ones

  same_or_not : (a b : E) → a ≢ b → same a b ≡ false
  same_or_not a b other = grind arith

  -- a run in front of runs that begin with another element
  abbrev Differs : E → List (Repetition E) → Type 0
  Differs e [] = Unit {0}
  Differs e (next ∷ runs) = e ≢ next.0

  runs_of-run : (e : E) (times : ℕ) (elements : List E) → Differs e (repetitions_of same elements)
      → repetitions_of same (replicate (suc times) e ++ elements) ≡ (e, suc times) ∷ repetitions_of same elements
  unfolding repetitions_of
  runs_of-run e zero elements differs = grind (arith, same_or_not)
  runs_of-run e (suc times) elements differs = grind (arith, runs_of-run e times elements differs)

  pub runs_of-expanded : (runs : List (Repetition E)) → AreLongest runs → repetitions_of same (expanded runs) ≡ runs
  unfolding repetitions_of
  runs_of-expanded [] longest = refl
  runs_of-expanded ((e, zero) ∷ []) longest = absurd (omega arith)
  runs_of-expanded ((e, suc times) ∷ []) longest = runs_of-run e times [] tt
  runs_of-expanded ((e, zero) ∷ next ∷ runs) longest = absurd (omega (arith, longest.0))
  runs_of-expanded ((e, suc times) ∷ next ∷ runs) longest = grind (arith, runs_of-run, runs_of-expanded (next ∷ runs) longest.2)

  -- ---- what holds of each element holds of each run

  all-joined : (P : Repetition E → Type 0) → ((e : E) (m n : ℕ) → P (e, m) → P (e, m + n))
      → (run : Repetition E) (runs : List (Repetition E)) → P run → AllByRecursion P runs → AllByRecursion P (with_repetition same run runs)
  all-joined P longer run h3 holds all = grind arith

  pub all-runs_of : (P : E → Type 0) (elements : List E) → AllByRecursion P elements
      → AllByRecursion (λ (run : Repetition E). P run.0 × (0 < run.1)) (repetitions_of same elements)
  unfolding repetitions_of
  all-runs_of P [] all = tt
  all-runs_of P (e ∷ elements) all =
      all-joined (λ (run : Repetition E). P run.0 × (0 < run.1)) (λ x m n holds. (holds.0, omega (arith, holds.1))) (e, 1)
      (repetitions_of same elements) (all.0, omega arith) (all-runs_of P elements all.1)

  -- ---- a text of runs: write is what stands for a run that others follow

  module _ (text_of : List (Repetition E) → List ℕ) (write : Repetition E → List ℕ)
      (writes : (run next : Repetition E) (runs : List (Repetition E))
      → text_of (run ∷ next ∷ runs) ≡ write run ++ text_of (next ∷ runs)) where
    -- an element that goes on with a run
    joined-same : (e next : E) (times : ℕ) (runs : List (Repetition E)) → same e next ≡ true
        → with_repetition same (e, times) (with_repetition same (next, 1) runs) ≡ with_repetition same (e, times + 1) runs
    joined-same e next times runs is = grind arith

    -- an element that ends it
    text-other : (e next : E) (times : ℕ) (runs : List (Repetition E)) → same e next ≡ false
        → text_of (with_repetition same (e, times) (with_repetition same (next, 1) runs)) ≡ write (e, times)
        ++ text_of (with_repetition same (next, 1) runs)
    text-other e next times runs other = grind arith

    -- what is still to be written: the run that goes on, and the runs of the rest
    abbrev pub to_write : E → ℕ → List E → List ℕ
    to_write e times rest = text_of (with_repetition same (e, times) (repetitions_of same rest))

    rest-cons : (elements : List E) (i : ℕ) (d : E) → i < length elements → drop i elements ≡ get_or elements i d ∷ drop (i + 1) elements
    rest-cons elements i d within = rw (add-one) (drop-cons elements i d within)

    write-same : (e d : E) (times i : ℕ) (elements : List E) → i < length elements
        → same e (get_or elements i d) ≡ true
        → to_write e times (drop i elements) ≡ to_write e (times + 1) (drop (i + 1) elements)
    unfolding repetitions_of
    write-same e d times i elements within is = rw (rest-cons elements i d within)
        (ap text_of (joined-same e (get_or elements i d) times (repetitions_of same (drop (i + 1) elements)) is))

    write-other : (e d : E) (times i : ℕ) (elements : List E) → i < length elements
        → same e (get_or elements i d) ≡ false
        → to_write e times (drop i elements) ≡ write (e, times)
        ++ to_write (get_or elements i d) 1 (drop (i + 1) elements)
    unfolding repetitions_of
    write-other e d times i elements within other = rw (rest-cons elements i d within)
        (text-other e (get_or elements i d) times (repetitions_of same (drop (i + 1) elements)) other)

    -- before the first turn a run of no element stands in front
    pub write-start : (e : E) (elements : List E) → slice_get elements 0 ≡ Some e → to_write e 0 elements ≡ text_of (repetitions_of same elements)
    unfolding repetitions_of
    write-start e [] first = absurd cc
    write-start e (next ∷ elements) first = grind (arith, some_is, joined-same)

    -- the element goes on with the run
    pub turn-same : (e d : E) (times i : ℕ) (elements : List E) (text whole : List ℕ) → i < length elements
        → same e (get_or elements i d) ≡ true → text ++ to_write e times (drop i elements) ≡ whole
        → text ++ to_write e (times + 1) (drop (i + 1) elements) ≡ whole
    turn-same e d times i elements text whole within is so_far = ap (λ (rest : List ℕ). text ++ rest) (sym (write-same e d times i elements within is)) ∙ so_far

    -- the element ends it
    pub turn-other : (e d : E) (times i : ℕ) (elements : List E) (text new whole : List ℕ) → i < length elements
        → same e (get_or elements i d) ≡ false → text ++ to_write e times (drop i elements) ≡ whole
        → new ≡ text ++ write (e, times) → new ++ to_write (get_or elements i d) 1 (drop (i + 1) elements) ≡ whole
    turn-other e d times i elements text new whole within other so_far written = grind (arith, append_assoc, write-other)

    -- after the last turn
    pub turns-end : (e : E) (times n : ℕ) (elements : List E) (text new whole : List ℕ) → length elements ≤ n
        → text ++ to_write e times (drop n elements) ≡ whole → new ≡ text ++ text_of ((e, times) ∷ []) → new ≡ whole
    unfolding repetitions_of
    turns-end e times n elements text new whole past so_far written = written ∙ (rw (drop_all n elements past) at so_far)
