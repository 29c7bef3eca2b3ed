use Rattle.std.proofs.Common.{◌≡◌, ◌-◌, ◌<◌, ◌≤◌, false, None}
use Rattle.hart_threads.specs.{SeatView, Continues, ending_by}
use Rattle.hart_threads.proofs.turns.land_calls.Given as goal

abbrev pub invariant-loop-calls : goal.invariant-loop-calls
invariant-loop-calls g l = record {
  acts : l.seat.acts ≡ false;
  some : l.fn.calls.made ≤ l.calls.made;
  most : l.calls.made ≤ l.end;
  goes : l.fn.calls.made < l.calls.made → ending_by l.calls.last ≡ None;
  on : (s : SeatView) → Continues l.fn.calls.made s l.fn.seat → Continues l.calls.made s l.seat;
}

abbrev pub decreases-loop-calls : goal.decreases-loop-calls
decreases-loop-calls g l = l.end - l.calls.made
