-- Which harts are stopped at a position, and how often each is counted.
use Rattle.std.specs.Prelude.{ℕ, zero, suc, ◌≡◌, ◌+◌, ◌-◌, ◌*◌, ◌<◌, ◌≤◌, ◌==◌, if◌then◌else◌, Bool, min, List, [], ◌∷◌, ◌++◌, length, count_by, slice_index}
use Rattle.std.specs.Prelude.{Option, Some, option_map}
use Rattle.std.specs.List.{slice_get}
use Rattle.hart.specs.Steps.{stop_number}
use Rattle.hart.specs.declared.status.Status.{Status}
use Rattle.hart.specs.declared.status.Status.TheVariants as status
use Rattle.step_machine.specs.Positions.{Position}
use Rattle.sampling.specs.declared.stops.Stopped.{Stopped}
use Rattle.sampling.specs.declared.stops.TheConstants.{PLACES}

-- what a table counts at most
abbrev pub MOST_TIMES : ℕ
MOST_TIMES = 4294967295

-- where a hart's reason stands in a table: 8 reasons, by their numbers from 8 on, for each hart
abbrev pub stop_place : Stopped → ℕ
stop_place stopped = 8 * stopped.hart + (stop_number stopped.why - 8)

abbrev pub is_at : (place : ℕ) → Stopped → Bool
is_at place stopped = stop_place stopped == place

-- these harts were stopped once more, if the run didn't finish; nothing is said of a count that is none
abbrev pub NotesStops : (finished : Bool) → List Stopped → (old new : List ℕ) → Type 0
NotesStops finished stopped old new = (p : ℕ) → p < length old → slice_index old p ≤ MOST_TIMES
    → slice_index new p ≡ min (slice_index old p + (if finished then 0 else count_by (is_at p) stopped)) MOST_TIMES

-- what was counted elsewhere was taken in
abbrev pub TakesStops : (later old new : List ℕ) → Type 0
TakesStops later old new =
    (p : ℕ) → p < PLACES → p < length old → slice_index old p ≤ MOST_TIMES → slice_index new p ≡ min (slice_index old p + slice_index later p) MOST_TIMES

-- a hart that is stopped, if its status says so
abbrev pub stopped_by : (hart : ℕ) → Option Status → List Stopped
stopped_by hart (Some (status.Stopped why)) = record { hart = hart; why = why } ∷ []
stopped_by hart other = []

-- of the first n harts those that are stopped
abbrev pub first_stopped : Position → (n : ℕ) → List Stopped
first_stopped p zero = []
first_stopped p (suc n) = first_stopped p n ++ stopped_by n (option_map (λ s. s.status) (slice_get p.harts n))
