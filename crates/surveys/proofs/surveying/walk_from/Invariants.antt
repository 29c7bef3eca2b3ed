use Rattle.std.proofs.Common.{◌≡◌, ◌≤◌, ◌<◌, length}
use Rattle.recorder.specs.declared.reading.TheConstants.{MAX_EVENTS}
use Rattle.surveys.proofs.surveying.walk_from.Given as goal

abbrev pub invariant-loop : goal.invariant-loop
invariant-loop g l = record {
  harts : length l.machine.harts ≡ length l.fn.machine.harts;
  some : 1 ≤ length l.states;
  few : length l.states ≤ l.limit;
  deep : length l.ends.items ≤ l.from;
  level : l.from ≤ l.level_end;
  below : length l.ends.items < l.level_end;
  most : length l.ends.items < MAX_EVENTS;
}
