use Rattle.std.proofs.Common.{◌++◌, inr, not, List, ap, subst, ◌∙◌}
use Rattle.rand_core.specs.Stream.{Stream}
use Rattle.step_machine.specs.declared.events.Event.{Event}
use Rattle.recorder.specs.Writing.{canon}
use Rattle.drawn_runs.specs.Samples.{runs_of}
use Rattle.judged_runs.specs.declared.telling.Told.{Told}
use Rattle.judged_runs.specs.declared.telling.Told.TheVariants.{Good, Flawed}
use Rattle.callers.specs.{violation_line, HasNoCallerViolation, CallerViolation}
use Rattle.callers.specs.declared.counts.Counts.{Counts}
use Rattle.callers.proofs.Alike.{kept_output}
use Rattle.callers.proofs.Judged.{AreTold, told_kept}
use Rattle.callers.proofs.run_output.output_of_runs.Goals as goal

pub returns-in-Good : goal.returns-in-Good
returns-in-Good g c =
    let o = c.args.test.now.opening in
    let l = c.args.located in
    let d = runs_of g.row.B g.row.M g.G.Rng.stream c.args.sample.now in
    let Free = HasNoCallerViolation d.B d.M o l in
    let told = subst (AreTold (record d { stream = g.G.Rng.stream c.in_ok-start.start }) o l Free) c.in-Good.is c.in_ok-counts.ensures in
    let free = subst (λ (s : Stream). AreTold (record d { stream = s }) o l Free (Good c.in-Good.counts)) c.in_ok-start.ensures told in
    kept_output d o l _ c.in-Good.counts (told_kept d o l c.requires.usable (Good c.in-Good.counts) free) c.in_ok-text-in-Good.ensures _
    (ap not c.are_none.ensures)

pub returns : goal.returns
returns g c =
    let o = c.args.test.now.opening in
    let l = c.args.located in
    let d = runs_of g.row.B g.row.M g.G.Rng.stream c.args.sample.now in
    let Free = HasNoCallerViolation d.B d.M o l in
    let told = subst (AreTold (record d { stream = g.G.Rng.stream c.in_ok-start.start }) o l Free) c.in-Flawed.is c.in_ok-counts.ensures in
    let shown : Told Counts CallerViolation = Flawed c.in-Flawed.part c.in-Flawed.flaw in
    inr (record {
      part = c.in-Flawed.part.items;
      violation = c.in-Flawed.flaw;
      is_told = told_kept d o l c.requires.usable shown (subst (λ (s : Stream). AreTold (record d { stream = s }) o l Free shown) c.in_ok-start.ensures told);
      text_is = c.in_ok-owing_text-in-Flawed.ensures ∙ ap (λ (es : List Event). canon es ++ violation_line c.in-Flawed.flaw) c.deref.ensures.value;
    })
