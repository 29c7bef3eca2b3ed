-- Which places were seen: a table with an entry for each register of 64 harts and each of 1,024 words.
use Rattle.std.specs.Prelude.{ℕ, ◌+◌, ◌*◌, ◌/◌, Bool, true, false, not, cond, List, [], ◌∷◌, filter, slice_index_or, slice_set}
use Rattle.litmus.specs.declared.symbols.Place.{Place}
use Rattle.litmus.specs.declared.symbols.Place.TheVariants as place
use Rattle.litmus.specs.declared.symbols.Step.{Step}
use Rattle.litmus.specs.declared.symbols.Step.TheVariants as step
use Rattle.litmus.specs.LitmusTests.{firsts}
use Rattle.litmus.specs.inner.Running.{step_places}

abbrev pub index_of : Place → ℕ
index_of (place.Register h n) = h * 32 + n
index_of (place.Word a) = 2048 + a / 4

abbrev pub is_seen : List Bool → Place → Bool
is_seen seen p = slice_index_or seen (index_of p) false

-- the place, unless it was seen
abbrev pub unless_seen : List Bool → Place → List Place
unless_seen seen p = cond (is_seen seen p) [] (p ∷ [])

abbrev pub after_place : List Bool → Step → List Place
after_place seen (step.Is p value) = unless_seen seen p
after_place seen s = []

abbrev pub after_seen : List Bool → Step → List Bool
after_seen seen (step.Is p value) = slice_set seen (index_of p) true
after_seen seen s = seen

-- those that are left to be seen first among these steps
abbrev pub left_to_see : List Bool → List Step → List Place
left_to_see seen steps = filter (λ p. not (is_seen seen p)) (firsts (step_places steps))
