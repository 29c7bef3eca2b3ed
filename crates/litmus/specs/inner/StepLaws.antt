-- A formula's steps give it back.
use Rattle.std.proofs.Common.{◌≡◌, ◌∙◌, ◌≤◌, sym, ap, subst, ℕ, suc, zero, List, [], ◌∷◌, ◌++◌, length, take, drop}
use Rattle.std.proofs.Common.{refl, arith, append_assoc, length-append, length-take, length-drop}
use Rattle.std.proofs.Math.Seq.{take-append_seam, drop-append_seam}
use Rattle.std.proofs.lemmas.List.{append-nil}
use Rattle.litmus.specs.declared.symbols.Place.TheVariants as place
use Rattle.litmus.specs.declared.symbols.Step.{Step}
use Rattle.litmus.specs.declared.symbols.Step.TheVariants as step
use Rattle.litmus.specs.Formulas.{Formula, is, negation, both, either, steps_of, formula_from, formula_of}

-- how many steps may be read doesn't matter from their number on
pub formula_from-enough : (m n : ℕ) (f : Formula) (steps : List Step) → length steps ≤ m → length steps ≤ n → formula_from m f steps ≡ formula_from n f steps
formula_from-enough zero zero f steps few enough = refl
formula_from-enough zero (suc n) f [] few enough = refl
formula_from-enough zero (suc n) f (s ∷ rest) few enough = absurd (omega (arith, few))
formula_from-enough (suc m) zero f [] few enough = refl
formula_from-enough (suc m) zero f (s ∷ rest) few enough = absurd (omega (arith, enough))
formula_from-enough (suc m) (suc n) f [] few enough = refl
formula_from-enough (suc m) (suc n) f (step.Is p v ∷ rest) few enough = formula_from-enough m n (is p v) rest (omega (arith, few)) (omega (arith, enough))
formula_from-enough (suc m) (suc n) f (step.Not ∷ rest) few enough = formula_from-enough m n (negation f) rest (omega (arith, few)) (omega (arith, enough))
formula_from-enough (suc m) (suc n) f (step.And skip ∷ rest) few enough =
    let right : formula_from m f (take skip rest) ≡ formula_from n f (take skip rest) = formula_from-enough m n f
    (take skip rest) (omega (arith, length-take skip rest, few)) (omega (arith, length-take skip rest, enough)) in
    ap (λ (g : Formula). formula_from m (both f g) (drop skip rest)) right
    ∙ formula_from-enough m n (both f (formula_from n f (take skip rest))) (drop skip rest)
    (omega (arith, length-drop skip rest, few)) (omega (arith, length-drop skip rest, enough))
formula_from-enough (suc m) (suc n) f (step.Or skip ∷ rest) few enough =
    let right : formula_from m f (take skip rest) ≡ formula_from n f (take skip rest) = formula_from-enough m n f
    (take skip rest) (omega (arith, length-take skip rest, few)) (omega (arith, length-take skip rest, enough)) in
    ap (λ (g : Formula). formula_from m (either f g) (drop skip rest)) right
    ∙ formula_from-enough m n (either f (formula_from n f (take skip rest))) (drop skip rest)
    (omega (arith, length-drop skip rest, few)) (omega (arith, length-drop skip rest, enough))

-- the steps of a formula are read as it, whatever stands before and after them
pub formula_from-steps_of : (g : Formula) (rest : List Step) (m n : ℕ) (f : Formula)
    → length (steps_of g ++ rest) ≤ m → length rest ≤ n → formula_from m f (steps_of g ++ rest) ≡ formula_from n g rest
formula_from-steps_of (is p v) rest zero n f few enough = absurd (omega (arith, few))
formula_from-steps_of (is p v) rest (suc m) n f few enough = formula_from-enough m n (is p v) rest (omega (arith, few)) enough
formula_from-steps_of (negation g) rest m n f few enough =
    let same : (steps_of g ++ step.Not ∷ []) ++ rest ≡ steps_of g ++ step.Not ∷ rest = append_assoc (steps_of g) (step.Not ∷ []) rest in
    ap (λ (s : List Step). formula_from m f s) same
    ∙ formula_from-steps_of g (step.Not ∷ rest) m (suc n) f (subst (λ (s : List Step). length s ≤ m) same few) (omega (arith, enough))
formula_from-steps_of (both g h) rest m n f few enough =
    let following : List Step = step.And (length (steps_of h)) ∷ (steps_of h ++ rest) in
    let same : (steps_of g ++ step.And (length (steps_of h)) ∷ steps_of h) ++ rest ≡ steps_of g ++ following =
    append_assoc (steps_of g) (step.And (length (steps_of h)) ∷ steps_of h) rest in
    let few_there : length (steps_of g ++ following) ≤ m = subst (λ (s : List Step). length s ≤ m) same few in
    let few_after : length (steps_of h ++ rest) ≤ m = omega (arith, few_there, length-append (steps_of g) following) in
    let few_right : length (steps_of h ++ []) ≤ m = omega (arith, few_after, length-append (steps_of h) rest, length-append (steps_of h) []) in
    let right : formula_from m g (take (length (steps_of h)) (steps_of h ++ rest)) ≡ h =
    ap (λ (s : List Step). formula_from m g s) (take-append_seam (steps_of h) rest ∙ sym (append-nil (steps_of h)))
    ∙ formula_from-steps_of h [] m zero g few_right (omega arith) in
    ap (λ (s : List Step). formula_from m f s) same
    ∙ formula_from-steps_of g following m (suc m) f few_there (omega (arith, few_after))
    ∙ ap (λ (k : Formula). formula_from m (both g k) (drop (length (steps_of h)) (steps_of h ++ rest))) right
    ∙ ap (λ (s : List Step). formula_from m (both g h) s) (drop-append_seam (steps_of h) rest)
    ∙ formula_from-enough m n (both g h) rest (omega (arith, few_after, length-append (steps_of h) rest)) enough
formula_from-steps_of (either g h) rest m n f few enough =
    let following : List Step = step.Or (length (steps_of h)) ∷ (steps_of h ++ rest) in
    let same : (steps_of g ++ step.Or (length (steps_of h)) ∷ steps_of h) ++ rest ≡ steps_of g ++ following =
    append_assoc (steps_of g) (step.Or (length (steps_of h)) ∷ steps_of h) rest in
    let few_there : length (steps_of g ++ following) ≤ m = subst (λ (s : List Step). length s ≤ m) same few in
    let few_after : length (steps_of h ++ rest) ≤ m = omega (arith, few_there, length-append (steps_of g) following) in
    let few_right : length (steps_of h ++ []) ≤ m = omega (arith, few_after, length-append (steps_of h) rest, length-append (steps_of h) []) in
    let right : formula_from m g (take (length (steps_of h)) (steps_of h ++ rest)) ≡ h =
    ap (λ (s : List Step). formula_from m g s) (take-append_seam (steps_of h) rest ∙ sym (append-nil (steps_of h)))
    ∙ formula_from-steps_of h [] m zero g few_right (omega arith) in
    ap (λ (s : List Step). formula_from m f s) same
    ∙ formula_from-steps_of g following m (suc m) f few_there (omega (arith, few_after))
    ∙ ap (λ (k : Formula). formula_from m (either g k) (drop (length (steps_of h)) (steps_of h ++ rest))) right
    ∙ ap (λ (s : List Step). formula_from m (either g h) s) (drop-append_seam (steps_of h) rest)
    ∙ formula_from-enough m n (either g h) rest (omega (arith, few_after, length-append (steps_of h) rest)) enough

pub formula_of-steps_of : (f : Formula) → formula_of (steps_of f) ≡ f
formula_of-steps_of f =
    let same : steps_of f ++ [] ≡ steps_of f = append-nil (steps_of f) in
    let at : (s : List Step) → steps_of f ++ [] ≡ s → formula_from (length s) (is (place.Word 0) 0) s ≡ f =
    λ s e. subst (λ (t : List Step). formula_from (length t) (is (place.Word 0) 0) t ≡ f) e
    (formula_from-steps_of f [] (length (steps_of f ++ [])) zero (is (place.Word 0) 0) (omega arith) (omega arith))
    in
    at (steps_of f) same
