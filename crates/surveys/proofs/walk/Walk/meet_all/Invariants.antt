use Rattle.std.proofs.Common.{◌≡◌, ◌≤◌, length}
use Rattle.surveys.proofs.walk.Walk.meet_all.Given as goal

abbrev pub invariant-loop-index : goal.invariant-loop-index
invariant-loop-index g l = record {
  harts : length l.machine.harts ≡ length l.fn.machine.harts;
  kept : length l.fn.self ≤ length l.self;
  few : length l.self ≤ l.limit;
}
