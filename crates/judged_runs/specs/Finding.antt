-- What is found of runs from one number on and before another.
use Rattle.std.specs.Prelude.{ℕ, zero, suc, ◌+◌, ◌-◌, ◌<◌, ◌≤◌, List, [], ◌∷◌}
use Rattle.step_machine.specs.declared.events.Event.{Event}
use Rattle.judged_runs.specs.declared.finding.Found.{Found}
use Rattle.judged_runs.specs.declared.finding.Found.TheVariants as found

-- the schedules of `count` numbers, from `first` on
abbrev pub schedules_from : (schedule : ℕ → List Event) → (first count : ℕ) → List (List Event)
schedules_from schedule first zero = []
schedules_from schedule first (suc count) = schedule first ∷ schedules_from schedule (first + 1) count

-- the runs from `first` on and before `end` are good
abbrev pub AreGood : (Good : List Event → Type 0) → (schedule : ℕ → List Event) → (first end : ℕ) → Type 0
AreGood Good schedule first end = (i : ℕ) → first ≤ i → i < end → Good (schedule i)

-- all of them are good, and `tally` is their count
pub record AreAllGood {T : Type 0} (Good : List Event → Type 0) (Counts : List (List Event) → T → Type 0) (schedule : ℕ → List Event)
    (first end : ℕ) (tally : T) : Type 0 where
  pub order : first ≤ end
  pub good : AreGood Good schedule first end
  pub counted : Counts (schedules_from schedule first (end - first)) tally

-- the run of this number is the first of them that has a flaw
pub record IsFirstFlawed {F : Type 0} (Good : List Event → Type 0) (Has : List Event → F → Type 0) (schedule : ℕ → List Event)
    (first end number : ℕ) (flaw : F) : Type 0 where
  pub within : number < end
  pub before : AreGood Good schedule first number
  pub has : Has (schedule number) flaw

abbrev pub IsFoundFrom : {T F : Type 0} → (Good : List Event → Type 0) → (Has : List Event → F → Type 0)
    → (Counts : List (List Event) → T → Type 0) → (schedule : ℕ → List Event) → (first end : ℕ) → Found T F → Type 0
IsFoundFrom Good Has Counts schedule first end (found.Good tally) = AreAllGood Good Counts schedule first end tally
IsFoundFrom Good Has Counts schedule first end (found.Flawed number flaw) = IsFirstFlawed Good Has schedule first end number flaw
