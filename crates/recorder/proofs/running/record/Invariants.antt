use Rattle.std.proofs.Common.{◌≡◌, take}
use Rattle.step_machine.specs.Names.{History, at_opening, RepresentsHistory}
use Rattle.recorder.specs.{events_in, RecordFrom}
use Rattle.recorder.proofs.running.record.Given as goal

abbrev pub invariant-loop-event : goal.invariant-loop-event
invariant-loop-event g l = record {
  so_far : (t : History) × RecordFrom g.row.B g.row.M (at_opening l.fn.opening) l.steps.items t × RepresentsHistory g.row.B g.row.M t l.machine;
  events : events_in l.steps.items ≡ take l.event-index l.events;
}
