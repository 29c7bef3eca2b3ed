use Rattle.std.proofs.Common.{◌≡◌, take}
use Rattle.ownership_runs.specs.inner.Noting.{nothing_noted, noted_all, AreNotesWithin}
use Rattle.ownership_runs.proofs.deciding.first_violation.Given as goal

abbrev pub invariant-loop-entry : goal.invariant-loop-entry
invariant-loop-entry l = record {
  noted : l.notes ≡ noted_all l.queue (nothing_noted l.fn.start) (take l.entry-index l.entries);
  within : AreNotesWithin l.entry-index l.notes;
}
