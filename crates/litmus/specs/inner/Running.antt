-- How the steps of a condition are gone through: with one truth value, and how many steps to skip.
use Rattle.std.specs.Prelude.{ℕ, ◌==◌, Bool, not, zero, suc, List, [], ◌∷◌, if◌then◌else◌}
use Rattle.litmus.specs.declared.symbols.Place.{Place}
use Rattle.litmus.specs.declared.symbols.Step.{Step}
use Rattle.litmus.specs.declared.symbols.Step.TheVariants as step
use Rattle.litmus.specs.LitmusTests.{IsThere}

-- the truth value after a step, and how many steps it skips
abbrev pub done : (Place → ℕ) → Step → Bool → Bool × ℕ
done value_of (step.Is place value) so_far = (value_of place == value, 0)
done value_of step.Not so_far = (not so_far, 0)
done value_of (step.And skip) so_far = (so_far, if so_far then 0 else skip)
done value_of (step.Or skip) so_far = (so_far, if so_far then skip else 0)

abbrev pub all_done : (Place → ℕ) → Bool → ℕ → List Step → Bool
all_done value_of so_far skip [] = so_far
all_done value_of so_far zero (s ∷ rest) = all_done value_of (done value_of s so_far).0 (done value_of s so_far).1 rest
all_done value_of so_far (suc skip) (s ∷ rest) = all_done value_of so_far skip rest

-- the place that a step asks for, if it asks for one, is there
abbrev pub AsksThere : (harts locations : ℕ) → Step → Type 0
AsksThere harts locations (step.Is place value) = IsThere harts locations place
AsksThere harts locations s = Unit {0}

-- the places that some steps ask for, from the left
abbrev pub step_places : List Step → List Place
step_places [] = []
step_places (step.Is place value ∷ rest) = place ∷ step_places rest
step_places (step.Not ∷ rest) = step_places rest
step_places (step.And skip ∷ rest) = step_places rest
step_places (step.Or skip ∷ rest) = step_places rest
