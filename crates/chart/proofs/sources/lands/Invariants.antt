use Rattle.std.proofs.Common.{◌≡◌, ◌≤◌, take}
use Rattle.step_machine.specs.Entries.{lands}
use Rattle.chart.proofs.sources.lands.Given as goal

abbrev pub invariant-loop-entry : goal.invariant-loop-entry
invariant-loop-entry l = record {
  count : l.count ≡ lands l.hart (take l.entry-index l.entries);
  most : l.count ≤ l.entry-index;
}
