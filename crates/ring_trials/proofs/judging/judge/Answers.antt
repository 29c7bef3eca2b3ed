use Rattle.ring_trials.proofs.judging.judge.Goals as goal
use Rattle.std.proofs.Common.{◌∙◌}
use Rattle.ring_trials.proofs.JudgingLaws.{judged_none, judged_next}

-- src/judging.rt:71:5
pub loop-event-init : goal.loop-event-init
loop-event-init g c = (
  judged_none g.row.B g.row.M c.args.channel.now c.args.machine.now c.restart.new.self c.begin.new.shares c.requires.stands c.restart.ensures.history
      c.begin.ensures.notes (c.begin.ensures.count ∙ c.requires.count),
  c.begin.ensures.count ∙ c.requires.count,
)

-- src/judging.rt:71:5
pub loop-event-preserved : goal.loop-event-preserved
loop-event-preserved g c = (
  judged_next g.row.B g.row.M c.args.channel.now c.args.events.now c.loop-event.event-index _ c.in_ok-outcome.outcome c.loop-event.machine c.step.new.self
      c.loop-event.found c.note_outcome-found.result c.loop-event.shares c.note_outcome-found.new.shares c.loop-event-test.true c.loop-event.invariant.0
      c.in_ok-outcome.ensures.ok c.note_outcome-found.ensures.noted,
  c.note_outcome-found.ensures.count ∙ c.loop-event.invariant.1,
)
