use Rattle.std.proofs.Common.{◌≡◌, ◌-◌, ◌≤◌, false}
use Rattle.hart_threads.specs.Seats.{Continues}
use Rattle.hart_threads.proofs.turns.landing_turns.Given as goal

abbrev pub invariant-loop-calls : goal.invariant-loop-calls
invariant-loop-calls g l = record {
  few : l.calls.made ≤ l.turns;
  waits : l.yields ≤ 16;
  acts : l.seat.acts ≡ false;
  on : Continues l.calls.made l.fn.seat l.seat;
}

abbrev pub decreases-loop-calls : goal.decreases-loop-calls
decreases-loop-calls g l = l.turns - l.calls.made
