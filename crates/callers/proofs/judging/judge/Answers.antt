use Rattle.std.proofs.Common.{◌∙◌}
use Rattle.callers.proofs.Noting.{run_more, notes_more}
use Rattle.callers.proofs.judging.judge.Goals as goal

-- src/judging.rt:318:5
pub loop-event-preserved : goal.loop-event-preserved
loop-event-preserved g c = record {
  run = run_more g.row.B g.row.M c.args.machine.now.history.opening c.args.events.now c.loop-event.event-index _ c.args.located c.loop-event.machine.history
      c.note_event.new.machine.history c.loop-event.notes c.in_ok-notes.notes c.loop-event-test.true c.loop-event.invariant.run c.in_ok-notes.ensures.noted;
  noted = notes_more g.row.B g.row.M c.args.machine.now.history.opening c.args.located _ c.loop-event.machine.history c.note_event.new.machine.history
      c.loop-event.notes c.in_ok-notes.notes c.loop-event.invariant.opening c.loop-event.invariant.noted c.in_ok-notes.ensures.noted;
  opening = c.note_event.ensures.opening ∙ c.loop-event.invariant.opening;
}
