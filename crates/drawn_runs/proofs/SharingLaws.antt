-- Where the runs of jobs begin, and what jobs gave, one after the other.
use Rattle.std.proofs.Common.{◌≡◌, ℕ, ◌+◌, ◌-◌, ◌≤◌, ◌<◌, List, [], ◌∷◌, length, Result, Ok, sym, subst, arith, rules}
use Rattle.std.specs.Prelude.{IfOk, slice_index_or}
use Rattle.std.proofs.Math.Nat.{div-mul-le_self}
use Rattle.std.proofs.lemmas.Nat.{le-div}
use Rattle.drawn_runs.specs.Sharing.{first_of, first_run_of_job, AreOfJobs}

-- ---- where they begin

none_before : (runs jobs : ℕ) → 1 ≤ jobs → first_of runs jobs 0 ≡ 0
none_before runs jobs some = search rules

all_before : (runs jobs job : ℕ) → 1 ≤ jobs → job ≡ jobs → first_of runs jobs job ≡ runs
all_before runs jobs job some last = search rules

later_after : (runs jobs job : ℕ) → 1 ≤ jobs → first_of runs jobs job ≤ first_of runs jobs (job + 1)
later_after runs jobs job some = grind (arith, div-mul-le_self, le-div)

within_all : (runs jobs job : ℕ) → 1 ≤ jobs → job ≤ jobs → first_of runs jobs job ≤ runs
within_all runs jobs job some most = search rules

-- the same of the runs from `first` on and before `end`
module _ (first end jobs : ℕ) (some : 1 ≤ jobs) where
  pub none_placed : first_run_of_job first end jobs 0 ≡ first
  none_placed = omega (arith, none_before (end - first) jobs some)

  pub all_placed : (job : ℕ) → job ≡ jobs → first ≤ end → first_run_of_job first end jobs job ≡ end
  all_placed job last order = omega (arith, all_before (end - first) jobs job some last, order)

  pub placed_later : (job : ℕ) → first_run_of_job first end jobs job ≤ first_run_of_job first end jobs (job + 1)
  placed_later job = omega (arith, later_after (end - first) jobs job some)

  pub placed_within : (job : ℕ) → job ≤ jobs → first ≤ end → first_run_of_job first end jobs job ≤ end
  placed_within job most order = omega (arith, within_all (end - first) jobs job some most, order)

-- ---- what they gave

module _ {X E : Type 0} (Is : ℕ → X → Type 0) where
  jobs_from : (job : ℕ) (all : List (Result X E)) → ((k : ℕ) (d : Result X E) → k < length all → IfOk (slice_index_or all k d) (Is (job + k)))
      → AreOfJobs Is job all
  jobs_from job [] each = tt
  jobs_from job (given ∷ later) each = (
    (let here : job + 0 ≡ job = omega arith in subst (λ (n : ℕ). IfOk given (Is n)) here (each 0 given (omega arith))),
    jobs_from (job + 1) later (λ k d less.
        let here : job + (k + 1) ≡ job + 1 + k = omega arith in
        let next : slice_index_or (given ∷ later) (k + 1) d ≡ slice_index_or later k d = search rules in
        subst (λ (n : ℕ). IfOk (slice_index_or later k d) (Is n)) here
        (subst (λ (r : Result X E). IfOk r (Is (job + (k + 1)))) next (each (k + 1) d (omega (arith, less))))),
  )

  pub jobs_all : (jobs : ℕ) (given shown : List (Result X E)) → shown ≡ given → length given ≡ jobs
      → ((job : ℕ) (d : Result X E) → job < jobs → IfOk (slice_index_or given job d) (Is job)) → AreOfJobs Is 0 shown
  jobs_all jobs given shown same long each =
      subst (AreOfJobs Is 0) (sym same)
      (jobs_from 0 given (λ k d less. let here : k ≡ 0 + k = omega arith in
      subst (λ (n : ℕ). IfOk (slice_index_or given k d) (Is n)) here (each k d (omega (arith, less, long)))))

  pub job_first : (job : ℕ) (all later : List (Result X E)) (x : X) → all ≡ Ok x ∷ later → AreOfJobs Is job all → Is job x
  job_first job all later x is given = (subst (AreOfJobs Is job) is given).0

  pub jobs_left : (job : ℕ) (all later : List (Result X E)) (first : Result X E) → all ≡ first ∷ later → AreOfJobs Is job all → AreOfJobs Is (job + 1) later
  jobs_left job all later first is given = (subst (AreOfJobs Is job) is given).1
