-- How a formula is stored by the logic: as its steps.
use Rattle.std.specs.Prelude.{ℕ, ◌≡◌, ◌⊎◌, Bool, true, false, Option, Some, None, List, refl}
use Rattle.std.specs.Coded.{Coded, code_by, coded_list, coded_option, coded_bool, coded_ℕ, coded×, coded⊎}
use Rattle.std.proofs.Common.{inl, inr}
use Rattle.litmus.specs.declared.symbols.Place.{Place}
use Rattle.litmus.specs.declared.symbols.Place.TheVariants as place
use Rattle.litmus.specs.declared.symbols.Step.{Step}
use Rattle.litmus.specs.declared.symbols.Step.TheVariants as step
use Rattle.litmus.specs.Formulas.{Formula, steps_of, formula_of}
use Rattle.litmus.specs.inner.StepLaws.{formula_of-steps_of}

abbrev pub place_parts : Place → (ℕ × ℕ) ⊎ ℕ
place_parts (place.Register h n) = inl (h, n)
place_parts (place.Word a) = inr a

abbrev pub place_with : (ℕ × ℕ) ⊎ ℕ → Place
place_with (inl register) = place.Register register.0 register.1
place_with (inr a) = place.Word a

pub place_with-parts : (p : Place) → place_with (place_parts p) ≡ p
place_with-parts (place.Register h n) = refl
place_with-parts (place.Word a) = refl

abbrev pub place_code : Coded Place
place_code = code_by ((ℕ × ℕ) ⊎ ℕ) (coded⊎ (coded× coded_ℕ coded_ℕ) coded_ℕ) place_parts place_with place_with-parts

abbrev pub step_parts : Step → (Place × ℕ) ⊎ Option (Bool × ℕ)
step_parts (step.Is p v) = inl (p, v)
step_parts step.Not = inr None
step_parts (step.And skip) = inr (Some (true, skip))
step_parts (step.Or skip) = inr (Some (false, skip))

abbrev pub skipping : Bool → ℕ → Step
skipping true skip = step.And skip
skipping false skip = step.Or skip

abbrev pub step_with : (Place × ℕ) ⊎ Option (Bool × ℕ) → Step
step_with (inl test) = step.Is test.0 test.1
step_with (inr None) = step.Not
step_with (inr (Some jump)) = skipping jump.0 jump.1

pub step_with-parts : (s : Step) → step_with (step_parts s) ≡ s
step_with-parts (step.Is p v) = refl
step_with-parts step.Not = refl
step_with-parts (step.And skip) = refl
step_with-parts (step.Or skip) = refl

abbrev pub step_code : Coded Step
step_code = code_by ((Place × ℕ) ⊎ Option (Bool × ℕ))
    (coded⊎ (coded× place_code coded_ℕ) (coded_option (coded× coded_bool coded_ℕ))) step_parts step_with step_with-parts

abbrev pub formula_code : Coded Formula
formula_code = code_by (List Step) (coded_list step_code) steps_of formula_of formula_of-steps_of
