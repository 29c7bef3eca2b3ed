use Rattle.std.proofs.Common.{rules, ℕ, ◌≡◌, ◌<◌, ◌+◌, ◌∷◌, [], List, length, sym, ap, subst, ◌∙◌, arith}
use Rattle.std.proofs.lemmas.List.{length-append}
use Rattle.queue_parties.specs.Parties.{all_at}
use Rattle.drawn_runs.specs.Samples.{runs_of}
use Rattle.ownership_runs.specs.declared.runs.Moved.{Moved}
use Rattle.certifying.specs.Queues.{any_queue, any_start, queue_count}
use Rattle.certifying.specs.Trials.{AllKeep, IsToldOf, QueuesKeep, trial_schedule}
use Rattle.certifying.proofs.DrawnLaws.{is-broken, keep-more}
use Rattle.certifying.proofs.trials.trial_of.Goals as goal

pub returns-in-Flawed : goal.returns-in-Flawed
returns-in-Flawed g c =
    let d = runs_of g.row.B g.row.M g.G.Rng.stream c.args.sample.now in
    let o = c.args.opening.now in
    let listed = c.args.certificate.now in
    let i = c.loop-index.index in
    let less : i < queue_count listed = search rules in
    let told = subst (IsToldOf d o listed i) c.in-Flawed.is c.in_ok-moved.ensures in
    let ends = c.laws_of_judged_runs.ensures.ends g.row.B g.row.M o (any_queue listed i) (all_at (any_start listed i)) (trial_schedule d o) d.number
    c.in-Flawed.part.items c.in-Flawed.flaw told in
    is-broken d o listed i c.in-Flawed.part.items c.in-Flawed.flaw c.loop-index.kept.items c.in_ok-broken_by-in-Flawed.field-0
    c.in_ok-broken_by-in-Flawed.ensures less c.loop-index.invariant.count c.loop-index.invariant.kept told ends

pub loop-index-preserved : goal.loop-index-preserved
loop-index-preserved g c =
    let d = runs_of g.row.B g.row.M g.G.Rng.stream c.args.sample.now in
    let o = c.args.opening.now in
    let listed = c.args.certificate.now in
    let items = c.loop-index.kept.items in
    let m = c.in-Good.moved in
    let told = subst (IsToldOf d o listed c.loop-index.index) c.in-Good.is c.in_ok-moved.ensures in
    let at : c.loop-index.index ≡ 0 + length items = omega (arith, c.loop-index.invariant.count) in
    record {
      count = ap (λ (xs : List Moved). length xs) c.in_ok-push-in-Good.ensures.items ∙ length-append items (m ∷ [])
          ∙ ap (λ (n : ℕ). n + 1) c.loop-index.invariant.count;
      kept = subst (QueuesKeep d o listed 0) (sym c.in_ok-push-in-Good.ensures.items)
          (keep-more d o listed 0 items m c.loop-index.invariant.kept (subst (λ (j : ℕ). AllKeep d o listed j m) at told));
    }
