use Rattle.std.proofs.Common.{◌≡◌, ◌-◌, ◌≤◌, true}
use Rattle.hart_threads.specs.{Continues, Goes}
use Rattle.hart_threads.proofs.turns.acting_turns.Given as goal

abbrev pub invariant-loop-calls : goal.invariant-loop-calls
invariant-loop-calls g l = record {
  few : l.calls.made ≤ l.turns;
  acts : l.seat.acts ≡ true;
  on : Continues l.calls.made l.fn.seat l.seat;
  goes : Goes l.calls.made l.fn.seat l.seat;
}

abbrev pub decreases-loop-calls : goal.decreases-loop-calls
decreases-loop-calls g l = l.turns - l.calls.made
