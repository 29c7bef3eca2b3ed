-- What a condition is, and when it is true.
use Rattle.std.specs.Prelude.{ℕ, ◌==◌, Bool, not, ◌&&◌, ◌||◌, List, [], ◌∷◌, ◌++◌, suc, zero, length, take, drop}
use Rattle.litmus.specs.declared.symbols.Place.{Place}
use Rattle.litmus.specs.declared.symbols.Place.TheVariants as place
use Rattle.litmus.specs.declared.symbols.Step.{Step}
use Rattle.litmus.specs.declared.symbols.Step.TheVariants as step

pub data Formula : Type 0 where
  is : Place → ℕ → Formula
  negation : Formula → Formula
  both : Formula → Formula → Formula
  either : Formula → Formula → Formula

-- whether the formula is true where the places have these values
abbrev pub truth : (Place → ℕ) → Formula → Bool
truth value_of (is place value) = value_of place == value
truth value_of (negation f) = not (truth value_of f)
truth value_of (both f g) = truth value_of f && truth value_of g
truth value_of (either f g) = truth value_of f || truth value_of g

-- the places that it asks for, from the left
abbrev pub places : Formula → List Place
places (is place value) = place ∷ []
places (negation f) = places f
places (both f g) = places f ++ places g
places (either f g) = places f ++ places g

-- ---- the steps of a formula, and the formula of some steps

-- A formula's steps, each part's before the next one's. The right side of an `And` or `Or` is skipped
-- where the left side decides.
abbrev pub steps_of : Formula → List Step
steps_of (is p v) = step.Is p v ∷ []
steps_of (negation f) = steps_of f ++ step.Not ∷ []
steps_of (both f g) = steps_of f ++ step.And (length (steps_of g)) ∷ steps_of g
steps_of (either f g) = steps_of f ++ step.Or (length (steps_of g)) ∷ steps_of g

-- The formula of these steps, going on from the formula of those before them. At most the given number is read,
-- and what isn't the steps of a formula gives some formula.
abbrev pub formula_from : ℕ → Formula → List Step → Formula
formula_from zero f steps = f
formula_from (suc n) f [] = f
formula_from (suc n) f (step.Is p v ∷ rest) = formula_from n (is p v) rest
formula_from (suc n) f (step.Not ∷ rest) = formula_from n (negation f) rest
formula_from (suc n) f (step.And skip ∷ rest) = formula_from n (both f (formula_from n f (take skip rest))) (drop skip rest)
formula_from (suc n) f (step.Or skip ∷ rest) = formula_from n (either f (formula_from n f (take skip rest))) (drop skip rest)

abbrev pub formula_of : List Step → Formula
formula_of steps = formula_from (length steps) (is (place.Word 0) 0) steps
