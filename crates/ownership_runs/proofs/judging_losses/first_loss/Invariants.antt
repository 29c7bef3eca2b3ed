use Rattle.std.proofs.Common.{◌≡◌, take}
use Rattle.step_machine.specs.Runs.{Run}
use Rattle.ownership_runs.specs.inner.LossNoting.{AreLossNotes, AreLossNotesWithin}
use Rattle.ownership_runs.proofs.judging_losses.first_loss.Given as goal

abbrev pub invariant-loop-event : goal.invariant-loop-event
invariant-loop-event g l = record {
  run : Run g.row.B g.row.M l.fn.machine.history.opening (take l.event-index l.events) l.machine.history;
  noted : AreLossNotes l.fn.since g.row.M l.queue l.fn.machine.history.opening l.fn.start l.machine.history.entries l.log.items l.notes;
  opening : l.machine.history.opening ≡ l.fn.machine.history.opening;
  within : AreLossNotesWithin l.event-index l.notes;
}
