use Rattle.std.proofs.Common.{◌≡◌, ◌≤◌, ◌+◌, ◌*◌, length, drop, vec_len, vec_capacity}
use Rattle.std.specs.Prelude.{map}
use Rattle.std.specs.Vec.Iter.{into_iter_items, into_iter_len}
use Rattle.step_machine.specs.inner.Config.{opened_hart}
use Rattle.hart_threads.specs.Seats.{seats_below}
use Rattle.hart_threads.proofs.shared.make_seats.Given as goal

abbrev pub invariant-loop-hart : goal.invariant-loop-hart
invariant-loop-hart g l = record {
  items : l.seats.items ≡ seats_below g.row.M l.opening l.number;
  left : into_iter_items l.hart-iterator ≡ drop l.number (map (opened_hart g.row.M) l.opening.harts);
  count : l.number + into_iter_len l.hart-iterator ≡ length l.opening.harts;
  len : vec_len l.seats ≡ 2 * l.number;
  room : 2 * length l.opening.harts ≤ vec_capacity l.seats;
}
