-- The longest runs of equal elements of a list, where a test decides which are equal.
use Rattle.std.specs.Prelude.{◌≢◌, ℕ, ◌+◌, ◌<◌, Bool, if◌then◌else◌, List, [], ◌∷◌, ◌++◌, replicate}

-- an element, and how often it comes in a row
abbrev pub Repetition : Type 0 → Type 0
Repetition E = E × ℕ

-- a run in front of others: it is one with the first of them where both are of one element
abbrev pub with_repetition : {E : Type 0} → (E → E → Bool) → Repetition E → List (Repetition E) → List (Repetition E)
with_repetition same run [] = run ∷ []
with_repetition same run (next ∷ runs) = if same run.0 next.0 then (run.0, run.1 + next.1) ∷ runs else run ∷ next ∷ runs

-- the longest runs of a list
unfoldable pub repetitions_of : {E : Type 0} → (E → E → Bool) → List E → List (Repetition E)
repetitions_of same [] = []
repetitions_of same (element ∷ elements) = with_repetition same (element, 1) (repetitions_of same elements)

-- the elements of runs
abbrev pub expanded : {E : Type 0} → List (Repetition E) → List E
expanded [] = []
expanded (run ∷ runs) = replicate run.1 run.0 ++ expanded runs

-- each run is of one element at least, and no two neighbours are of the same
abbrev pub AreLongest : {E : Type 0} → List (Repetition E) → Type 0
AreLongest [] = Unit {0}
AreLongest (run ∷ []) = 0 < run.1
AreLongest (run ∷ next ∷ runs) = (0 < run.1) × (run.0 ≢ next.0) × AreLongest (next ∷ runs)
