use Rattle.std.proofs.Common.{◌≡◌, take}
use Rattle.step_machine.specs.Runs.{Run}
use Rattle.callers.specs.{spsc_of, AreCallNotes}
use Rattle.callers.proofs.judging.judge.Given as goal

abbrev pub invariant-loop-event : goal.invariant-loop-event
invariant-loop-event g l = record {
  run : Run g.row.B g.row.M l.fn.machine.history.opening (take l.event-index l.events) l.machine.history;
  noted : AreCallNotes g.row.M l.fn.machine.history.opening (spsc_of l.located) l.machine.history.entries l.notes;
  opening : l.machine.history.opening ≡ l.fn.machine.history.opening;
}
