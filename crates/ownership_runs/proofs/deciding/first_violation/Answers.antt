use Rattle.std.proofs.Common.{take, ap, ◌∙◌}
use Rattle.std.proofs.lemmas.List.{take_all}
use Rattle.ownership_runs.specs.{RunNotes, first_ownership_violation}
use Rattle.ownership_runs.proofs.Noting.{next-noted, first-noted}
use Rattle.ownership_runs.proofs.deciding.first_violation.Goals as goal

pub loop-entry-preserved : goal.loop-entry-preserved
loop-entry-preserved c = record {
  noted = next-noted c.args.queue.now c.args.start c.args.entries.now c.loop-entry.entry-index _ c.loop-entry.notes _ c.loop-entry-test.true
      c.loop-entry.invariant.noted c.note_more-notes.ensures.value;
  within = c.note_more-notes.ensures.within c.loop-entry.entry-index c.loop-entry.invariant.within;
}

pub returns : goal.returns
returns c =
    let q = c.args.queue.now in
    let es = c.args.entries.now in
    ap (λ (notes : RunNotes). notes.found) c.loop-entry.invariant.noted ∙ first-noted q c.args.start (take c.loop-entry.entry-index es)
    ∙ ap (first_ownership_violation q c.args.start) (take_all c.loop-entry.entry-index es c.loop-entry-test.false)
