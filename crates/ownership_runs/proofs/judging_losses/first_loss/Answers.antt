use Rattle.std.proofs.Common.{sym, subst, ◌∙◌}
use Rattle.step_machine.specs.History.{OpeningValue, at_opening}
use Rattle.step_machine.proofs.Running.{run_more}
use Rattle.ownership_runs.specs.inner.LossNoting.{AreLossNotes}
use Rattle.ownership_runs.proofs.judging_losses.first_loss.Goals as goal

pub loop-event-preserved : goal.loop-event-preserved
loop-event-preserved g c =
    let M = g.row.M in
    let q = c.args.queue.now in
    let t = c.loop-event.machine.history in
    let u = c.note_event.new.machine.history in
    let same = c.loop-event.invariant.opening in
    record {
      run = run_more g.row.B M (at_opening c.args.machine.now.history.opening) c.args.events.now c.loop-event.event-index _ t
          c.in_ok-notes.ensures.happened.0 u c.loop-event-test.true c.loop-event.invariant.run c.in_ok-notes.ensures.happened.1;
      noted = subst (λ (o : OpeningValue). AreLossNotes c.args.since M q o c.args.start u.entries c.note_event.new.log.items c.in_ok-notes.notes) same
          (c.in_ok-notes.ensures.noted c.args.start
          (subst (λ (o : OpeningValue). AreLossNotes c.args.since M q o c.args.start t.entries c.loop-event.log.items c.loop-event.notes) (sym same)
          c.loop-event.invariant.noted));
      opening = c.note_event.ensures.opening ∙ same;
      within = c.in_ok-notes.ensures.within c.loop-event.event-index c.loop-event.invariant.within;
    }
