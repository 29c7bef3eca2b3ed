use Rattle.std.proofs.Common.{sym, ap, ◌∙◌}
use Rattle.step_machine.specs.History.{at_opening}
use Rattle.step_machine.proofs.Running.{run_more}
use Rattle.ownership_runs.specs.{RunNotes, noted_after}
use Rattle.ownership_runs.proofs.Noting.{first-noted, all-noted, event-noted}
use Rattle.ownership_runs.proofs.judging.judge.Goals as goal

pub loop-event-preserved : goal.loop-event-preserved
loop-event-preserved g c = record {
  run = run_more g.row.B g.row.M (at_opening c.args.machine.now.history.opening) c.args.events.now c.loop-event.event-index _ c.loop-event.machine.history
      c.in_ok-notes.ensures.noted.outcome c.note_event.new.machine.history c.loop-event-test.true c.loop-event.invariant.run
      c.in_ok-notes.ensures.noted.happens;
  noted = c.in_ok-notes.ensures.noted.noted
      ∙ ap (λ (notes : RunNotes). noted_after c.args.queue.now notes c.in_ok-notes.ensures.noted.outcome) c.loop-event.invariant.noted
      ∙ event-noted c.args.queue.now g.row.B g.row.M c.args.start _ _ c.note_event.new.machine.history c.in_ok-notes.ensures.noted.outcome
      c.in_ok-notes.ensures.noted.happens;
  opening = c.note_event.ensures.opening ∙ c.loop-event.invariant.opening;
  within = c.in_ok-notes.ensures.within c.loop-event.event-index c.loop-event.invariant.within;
}

pub returns-clause-found : goal.returns-clause-found
returns-clause-found g c = ap (λ (notes : RunNotes). notes.found) c.loop-event.invariant.noted
    ∙ first-noted c.args.queue.now c.args.start c.loop-event.machine.history.entries

pub returns-clause-counts : goal.returns-clause-counts
returns-clause-counts g c none =
    let es = c.loop-event.machine.history.entries in
    let found = ap (λ (notes : RunNotes). notes.found) c.loop-event.invariant.noted ∙ first-noted c.args.queue.now c.args.start es in
    ap (λ (notes : RunNotes). notes.counts) (c.loop-event.invariant.noted ∙ all-noted c.args.queue.now c.args.start es (sym found ∙ none))
