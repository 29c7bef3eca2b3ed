use Rattle.std.proofs.Common.{refl}
use Rattle.step_machine.specs.History.{at_opening}
use Rattle.recorder.proofs.RunRecords.{one_recorded}
use Rattle.recorder.proofs.running.record.Goals as goal

pub loop-event-init : goal.loop-event-init
loop-event-init g c = rw c.in_ok-steps.ensures.items (record { so_far = (at_opening c.args.opening, refl, c.in_ok-machine.ensures); events = refl })

pub loop-event-preserved : goal.loop-event-preserved
loop-event-preserved g c =
    let so_far = c.loop-event.invariant.so_far in
    let moved = c.in_ok-outcome.ensures.ok so_far.0 so_far.2 in
    let both = one_recorded g.row.B g.row.M _ c.loop-event.steps.items c.push.new.self.items c.args.events.now
    c.loop-event.event-index _ c.in_ok-outcome.outcome so_far.0 moved.0
    c.loop-event-test.true so_far.1 c.loop-event.invariant.events moved.1 c.in_ok-push.ensures.items in
    record { so_far = (moved.0, both.0, moved.2); events = both.1 }
