use Rattle.std.proofs.Common.{◌≡◌, length}
use Rattle.surveys.proofs.walk.Walk.go_on.Given as goal

abbrev pub invariant-loop-number : goal.invariant-loop-number
invariant-loop-number g l = record {
  harts : length l.machine.harts ≡ length l.fn.machine.harts;
  states : l.self ≡ l.fn.self;
}
