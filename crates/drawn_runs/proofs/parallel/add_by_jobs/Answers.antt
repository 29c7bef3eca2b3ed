use Rattle.std.proofs.Common.{rules, ◌≤◌, ◌+◌, ◌∙◌, ℕ, ◌∷◌, Result, ap, sym, subst, arith}
use Rattle.std.specs.Vec.Iter.{into_iter_items}
use Rattle.std.specs.declared.alloc.AllocError.{AllocError}
use Rattle.drawn_runs.specs.Sharing.{IsOfJob, first_run_of_job}
use Rattle.drawn_runs.proofs.SharingLaws.{none_placed, all_placed, placed_later, placed_within, job_first, jobs_all, jobs_left}
use Rattle.drawn_runs.proofs.parallel.add_by_jobs.Goals as goal

pub loop-part-init : goal.loop-part-init
loop-part-init g c =
    let Knows = g.D.Trials.knows c.args.trials.now in (
      0,
      search rules,
      jobs_all (IsOfJob Knows c.args.first c.args.end c.args.jobs) c.args.jobs c.in_ok-parts.parts.items _
          c.into_iter-part-iterator.ensures.into_iter_gives.0 (search rules) c.in_ok-parts.ensures.each,
      subst (λ (n : ℕ). Knows 0 n c.args.whole.now) (sym (none_placed c.args.first c.args.end c.args.jobs c.requires.some)) c.requires.known,
    )

pub join-requires : goal.join-requires
join-requires g c =
    let Is = IsOfJob (g.D.Trials.knows c.args.trials.now) c.args.first c.args.end c.args.jobs in
    let so_far = c.loop-part.invariant in
    let job = so_far.0 in
    let more : job + 1 ≤ c.args.jobs = search rules in
    let is = c.in-Some.ensures.steps.0 ∙ ap (λ (r : Result g.row.D-Part.Denot AllocError). r ∷ into_iter_items c.next.new.self) c.in_ok-part.was in
    let within = placed_within c.args.first c.args.end c.args.jobs c.requires.some (job + 1) more c.requires.order in
    record {
      middle = first_run_of_job c.args.first c.args.end c.args.jobs job;
      end = first_run_of_job c.args.first c.args.end c.args.jobs (job + 1);
      order = placed_later c.args.first c.args.end c.args.jobs c.requires.some job;
      few = omega (arith, within, c.ranges.end.fits);
      before = so_far.3;
      after = job_first Is job _ (into_iter_items c.next.new.self) c.in_ok-part.field-0 is so_far.2;
    }

pub loop-part-preserved : goal.loop-part-preserved
loop-part-preserved g c =
    let Is = IsOfJob (g.D.Trials.knows c.args.trials.now) c.args.first c.args.end c.args.jobs in
    let so_far = c.loop-part.invariant in
    let job = so_far.0 in
    let taken = c.in-Some.ensures.steps.0 in
    let is = taken ∙ ap (λ (r : Result g.row.D-Part.Denot AllocError). r ∷ into_iter_items c.next.new.self) c.in_ok-part.was in (
      job + 1,
      search rules,
      jobs_left Is job _ (into_iter_items c.next.new.self) c.in-Some.part taken so_far.2,
      c.in_ok-join.ensures (first_run_of_job c.args.first c.args.end c.args.jobs job) (first_run_of_job c.args.first c.args.end c.args.jobs (job + 1))
          (placed_later c.args.first c.args.end c.args.jobs c.requires.some job) so_far.3
          (job_first Is job _ (into_iter_items c.next.new.self) c.in_ok-part.field-0 is so_far.2),
    )

pub returns : goal.returns
returns g c =
    let all = all_placed c.args.first c.args.end c.args.jobs c.requires.some c.loop-part.invariant.0 (search rules) c.requires.order in
    subst (λ (n : ℕ). g.D.Trials.knows c.args.trials.now 0 n c.loop-part.whole) all c.loop-part.invariant.3
