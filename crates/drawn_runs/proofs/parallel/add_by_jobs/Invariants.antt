use Rattle.std.proofs.Common.{◌≡◌, ◌+◌, ℕ, length}
use Rattle.std.specs.Vec.Iter.{into_iter_items}
use Rattle.drawn_runs.specs.Sharing.{first_run_of_job, AreOfJobs, IsOfJob}
use Rattle.drawn_runs.proofs.parallel.add_by_jobs.Given as goal

-- what is known of the runs before this job's, and what the jobs gave that are left
abbrev pub invariant-loop-part : goal.invariant-loop-part
invariant-loop-part g l =
    (job : ℕ) × (job + length (into_iter_items l.part-iterator) ≡ l.jobs)
    × AreOfJobs (IsOfJob (g.D.Trials.knows l.trials) l.first l.end l.jobs) job (into_iter_items l.part-iterator)
    × g.D.Trials.knows l.trials 0 (first_run_of_job l.first l.end l.jobs job) l.whole
