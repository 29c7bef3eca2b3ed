use Rattle.std.proofs.Common.{◌≡◌, take}
use Rattle.step_machine.specs.Runs.{Run}
use Rattle.ownership_runs.specs.inner.Noting.{nothing_noted, noted_all, AreNotesWithin}
use Rattle.ownership_runs.proofs.judging.judge.Given as goal

abbrev pub invariant-loop-event : goal.invariant-loop-event
invariant-loop-event g l = record {
  run : Run g.row.B g.row.M l.fn.machine.history.opening (take l.event-index l.events) l.machine.history;
  noted : l.notes ≡ noted_all l.queue (nothing_noted l.fn.start) l.machine.history.entries;
  opening : l.machine.history.opening ≡ l.fn.machine.history.opening;
  within : AreNotesWithin l.event-index l.notes;
}
