-- Records of runs: the events of a run, each with its outcome.
use Rattle.std.specs.Prelude.{◌≡◌, ◌≢◌, ℕ, List, [], ◌∷◌, take, Some}
use Rattle.std.specs.List.{slice_get}
use Rattle.step_machine.specs.History.{OpeningValue, History, at_opening}
use Rattle.step_machine.specs.Runs.{Happens}
use Rattle.step_machine.specs.declared.events.Outcome.{Outcome}
use Rattle.recorder.specs.Records.{Step}
use Rattle.recorder.specs.declared.replaying.CheckError.{CheckError}
use Rattle.recorder.specs.declared.replaying.CheckError.TheVariants as error

-- these events, one after the other, each with its outcome, make this history of the one before
abbrev pub RecordFrom : (B M : ℕ) → History → List Step → History → Type 0
RecordFrom B M t [] new = new ≡ t
RecordFrom B M t (step ∷ steps) new = (mid : History) × Happens B M t step.0 step.1 mid × RecordFrom B M mid steps new

-- The steps are the record of a run of the opening that ends with this history.
abbrev pub IsRunRecord : (B M : ℕ) → OpeningValue → List Step → History → Type 0
IsRunRecord B M opening steps history = RecordFrom B M (at_opening opening) steps history

-- This step of the list, counted from 0, is the first whose event has another outcome in the run.
pub record DiffersAt (B M : ℕ) (opening : OpeningValue) (steps : List Step) (place : ℕ) : Type 0 where
  pub before : History
  pub is_record : IsRunRecord B M opening (take place steps) before
  pub step : Step
  pub stands : slice_get steps place ≡ Some step
  pub outcome : Outcome
  pub after : History
  pub happens : Happens B M before step.0 outcome after
  pub other : outcome ≢ step.1

-- This holds of the place that the error names.
abbrev pub Differs : (ℕ → Type 0) → CheckError → Type 0
Differs IsPlace error.NoMemory = Unit {0}
Differs IsPlace (error.Differs place) = IsPlace place
