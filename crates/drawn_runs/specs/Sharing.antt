-- Runs that jobs share.
use Rattle.std.specs.Prelude.{ℕ, ◌+◌, ◌-◌, ◌*◌, ◌/◌, ◌<◌, ◌≤◌, List, [], ◌∷◌, Result, IfOk}

-- the first run of a job, where there are `jobs` jobs; after the last job all runs end
abbrev pub first_of : (runs jobs job : ℕ) → ℕ
first_of runs jobs job = runs * job / jobs

-- the same of the runs from `first` on and before `end`
abbrev pub first_run_of_job : (first end jobs job : ℕ) → ℕ
first_run_of_job first end jobs job = first + first_of (end - first) jobs job

-- what is known of a job's runs, which end where those of the next job begin
abbrev pub IsOfJob : {X : Type 0} → (Knows : (first end : ℕ) → X → Type 0) → (first end jobs job : ℕ) → X → Type 0
IsOfJob Knows first end jobs job part = Knows (first_run_of_job first end jobs job) (first_run_of_job first end jobs (job + 1)) part

-- what the jobs from this one on gave, in order: each value is as its job's has to be
abbrev pub AreOfJobs : {X E : Type 0} → (Is : ℕ → X → Type 0) → (job : ℕ) → List (Result X E) → Type 0
AreOfJobs Is job [] = Unit {0}
AreOfJobs Is job (given ∷ later) = IfOk given (Is job) × AreOfJobs Is (job + 1) later

-- What is known of runs from the first one on, and of those that come after them. A run's number has 32 bits.
pub record Meet {X : Type 0} (Knows : (first end : ℕ) → X → Type 0) (whole later : X) : Type 0 where
  pub middle : ℕ
  pub end : ℕ
  pub order : middle ≤ end
  pub few : end < 4294967296
  pub before : Knows 0 middle whole
  pub after : Knows middle end later
