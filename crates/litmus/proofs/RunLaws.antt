-- The steps of a formula do what it says, and ask for its places.
use Rattle.std.proofs.Common.{◌≡◌, ◌∙◌, sym, ap, subst, ℕ, Bool, true, ◌&&◌, ◌||◌, suc, zero, ◌≤◌, List, [], ◌∷◌, ◌++◌, length, refl, arith, append_assoc, All}
use Rattle.std.proofs.Common.{get_or, drop, ◌<◌, ◌-◌, ◌+◌, drop-cons, add-one}
use Rattle.std.proofs.lemmas.List.Elements.{All-nil, All-cons, All-head, All-tail}
use Rattle.std.proofs.lemmas.List.{append-nil}
use Rattle.litmus.specs.{Place, Step, Formula, is, negation, both, either, truth, places, steps_of, IsThere, done, all_done, step_places, AsksThere}
use Rattle.litmus.specs.declared.symbols.Step.TheVariants as step

-- the steps that are skipped change nothing
pub all_done-skipped : (value_of : Place → ℕ) (so_far : Bool) (skipped rest : List Step)
    → all_done value_of so_far (length skipped) (skipped ++ rest) ≡ all_done value_of so_far 0 rest
all_done-skipped value_of so_far [] rest = refl
all_done-skipped value_of so_far (s ∷ skipped) rest = all_done-skipped value_of so_far skipped rest

-- the right side of an operator: gone through, or skipped where the left side decides
right_of_and : (value_of : Place → ℕ) (g : Formula) (rest : List Step) (b : Bool)
    → ((c : Bool) → all_done value_of c 0 (steps_of g ++ rest) ≡ all_done value_of (truth value_of g) 0 rest)
    → all_done value_of b 0 (step.And (length (steps_of g)) ∷ (steps_of g ++ rest))
    ≡ all_done value_of (b && truth value_of g) 0 rest
right_of_and value_of g rest b right = grind (arith, all_done-skipped)

right_of_or : (value_of : Place → ℕ) (g : Formula) (rest : List Step) (b : Bool)
    → ((c : Bool) → all_done value_of c 0 (steps_of g ++ rest) ≡ all_done value_of (truth value_of g) 0 rest)
    → all_done value_of b 0 (step.Or (length (steps_of g)) ∷ (steps_of g ++ rest))
    ≡ all_done value_of (b || truth value_of g) 0 rest
right_of_or value_of g rest b right = grind (arith, all_done-skipped)

pub all_done-steps_of : (value_of : Place → ℕ) (f : Formula) (rest : List Step) (so_far : Bool)
    → all_done value_of so_far 0 (steps_of f ++ rest) ≡ all_done value_of (truth value_of f) 0 rest
all_done-steps_of value_of (is p v) rest so_far = refl
all_done-steps_of value_of (negation f) rest so_far = grind (arith, append_assoc, all_done-steps_of value_of f (step.Not ∷ rest) so_far)
all_done-steps_of value_of (both f g) rest so_far = grind (
  arith,
  append_assoc,
  right_of_and,
  all_done-steps_of value_of f (step.And (length (steps_of g)) ∷ (steps_of g ++ rest)) so_far,
  all_done-steps_of value_of g rest,
)
all_done-steps_of value_of (either f g) rest so_far = grind (
  arith,
  append_assoc,
  right_of_or,
  all_done-steps_of value_of f (step.Or (length (steps_of g)) ∷ (steps_of g ++ rest)) so_far,
  all_done-steps_of value_of g rest,
)

pub step_places-append : (left right : List Step) → step_places (left ++ right) ≡ step_places left ++ step_places right
step_places-append [] right = refl
step_places-append (step.Is p v ∷ left) right = ap (λ (ps : List Place). p ∷ ps) (step_places-append left right)
step_places-append (step.Not ∷ left) right = step_places-append left right
step_places-append (step.And skip ∷ left) right = step_places-append left right
step_places-append (step.Or skip ∷ left) right = step_places-append left right

pub step_places-steps_of : (f : Formula) → step_places (steps_of f) ≡ places f
step_places-steps_of (is p v) = refl
step_places-steps_of (negation f) = step_places-append (steps_of f) (step.Not ∷ []) ∙ append-nil (step_places (steps_of f)) ∙ step_places-steps_of f
step_places-steps_of (both f g) = step_places-append (steps_of f) (step.And (length (steps_of g)) ∷ steps_of g)
    ∙ ap (λ (ps : List Place). ps ++ step_places (steps_of g)) (step_places-steps_of f)
    ∙ ap (λ (ps : List Place). places f ++ ps) (step_places-steps_of g)
step_places-steps_of (either f g) = step_places-append (steps_of f) (step.Or (length (steps_of g)) ∷ steps_of g)
    ∙ ap (λ (ps : List Place). ps ++ step_places (steps_of g)) (step_places-steps_of f)
    ∙ ap (λ (ps : List Place). places f ++ ps) (step_places-steps_of g)

-- steps whose places are there ask for what is there
pub AsksThere-step_places : (harts locations : ℕ) (steps : List Step)
    → All (IsThere harts locations) (step_places steps) → All (AsksThere harts locations) steps
AsksThere-step_places harts locations [] there = All-nil (AsksThere harts locations)
AsksThere-step_places harts locations (step.Is p v ∷ rest) there =
    All-cons (AsksThere harts locations) (step.Is p v) rest (there 0 p (omega arith))
    (AsksThere-step_places harts locations rest (λ k d small. there (suc k) d (omega (arith, small))))
AsksThere-step_places harts locations (step.Not ∷ rest) there =
    All-cons (AsksThere harts locations) step.Not rest tt (AsksThere-step_places harts locations rest there)
AsksThere-step_places harts locations (step.And skip ∷ rest) there =
    All-cons (AsksThere harts locations) (step.And skip) rest tt (AsksThere-step_places harts locations rest there)
AsksThere-step_places harts locations (step.Or skip ∷ rest) there =
    All-cons (AsksThere harts locations) (step.Or skip) rest tt (AsksThere-step_places harts locations rest there)

pub AsksThere-steps_of : (harts locations : ℕ) (f : Formula) → All (IsThere harts locations) (places f) → All (AsksThere harts locations) (steps_of f)
AsksThere-steps_of harts locations f there = AsksThere-step_places harts locations (steps_of f)
    (subst (λ (ps : List Place). All (IsThere harts locations) ps) (sym (step_places-steps_of f)) there)

-- a place is there among more harts and locations too
pub IsThere-more : (harts more_harts locations more : ℕ) (p : Place) → harts ≤ more_harts → locations ≤ more
    → IsThere harts locations p → IsThere more_harts more p
IsThere-more harts more_harts locations more p many enough there = grind arith

pub AreThere-more : (harts more_harts locations more : ℕ) (ps : List Place) → harts ≤ more_harts → locations ≤ more
    → All (IsThere harts locations) ps → All (IsThere more_harts more) ps
AreThere-more harts more_harts locations more ps many enough there =
    λ k d small. IsThere-more harts more_harts locations more (get_or ps k d) many enough (there k d small)

pub all_done-condition : (value_of : Place → ℕ) (f : Formula) → all_done value_of true 0 (steps_of f) ≡ truth value_of f
all_done-condition value_of f = ap (λ (s : List Step). all_done value_of true 0 s) (sym (append-nil (steps_of f))) ∙ all_done-steps_of value_of f [] true

-- one step of the loop over the steps
pub all_done-skips : (value_of : Place → ℕ) (so_far : Bool) (skip i : ℕ) (steps : List Step) → 0 < skip
    → i < length steps
    → all_done value_of so_far (skip - 1) (drop (i + 1) steps) ≡ all_done value_of so_far skip (drop i steps)
all_done-skips value_of so_far zero i steps some small = absurd (omega (arith, some))
all_done-skips value_of so_far (suc skip) i steps some small = grind (arith, drop-cons steps i step.Not small, add-one i)

pub all_done-does : (value_of : Place → ℕ) (so_far : Bool) (i : ℕ) (steps : List Step) (d : Step) → i < length steps
    → all_done value_of (done value_of (get_or steps i d) so_far).0 (done value_of (get_or steps i d) so_far).1
    (drop (i + 1) steps) ≡ all_done value_of so_far 0 (drop i steps)
all_done-does value_of so_far i steps d small = rw (drop-cons steps i d small, add-one i) refl

pub all_done-next : (value_of : Place → ℕ) (so_far new_so_far : Bool) (skip new_skip i : ℕ) (steps : List Step)
    (d : Step) (after : Bool × ℕ) → i < length steps → skip ≤ 0 → after ≡ done value_of (get_or steps i d) so_far
    → new_so_far ≡ after.0 → new_skip ≡ after.1
    → all_done value_of new_so_far new_skip (drop (i + 1) steps) ≡ all_done value_of so_far skip (drop i steps)
all_done-next value_of so_far new_so_far skip new_skip i steps d after small none after-is truth_is skip_is = grind (arith, all_done-does)

pub step_places-AsksThere : (harts locations : ℕ) (steps : List Step) → All (AsksThere harts locations) steps
    → All (IsThere harts locations) (step_places steps)
step_places-AsksThere harts locations [] all = All-nil (IsThere harts locations)
step_places-AsksThere harts locations (step.Is p value ∷ rest) all = All-cons (IsThere harts locations) p
    (step_places rest) (All-head (AsksThere harts locations) (step.Is p value) rest all)
    (step_places-AsksThere harts locations rest (All-tail (AsksThere harts locations) (step.Is p value) rest all))
step_places-AsksThere harts locations (step.Not ∷ rest) all =
    step_places-AsksThere harts locations rest (All-tail (AsksThere harts locations) step.Not rest all)
step_places-AsksThere harts locations (step.And skip ∷ rest) all =
    step_places-AsksThere harts locations rest (All-tail (AsksThere harts locations) (step.And skip) rest all)
step_places-AsksThere harts locations (step.Or skip ∷ rest) all =
    step_places-AsksThere harts locations rest (All-tail (AsksThere harts locations) (step.Or skip) rest all)
