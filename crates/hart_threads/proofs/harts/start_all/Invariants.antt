use Rattle.std.proofs.Common.{◌≡◌, ◌≤◌, ◌+◌, ◌++◌, vec_len, vec_capacity}
use Rattle.std.specs.Prelude.{map, All}
use Rattle.std.specs.Vec.Iter.{into_iter_items, into_iter_len}
use Rattle.hart_threads.proofs.harts.start_all.Given as goal

abbrev pub invariant-loop-held : goal.invariant-loop-held
invariant-loop-held g l = record {
  same : map (λ h. h.promise.given.value.seat) l.handles.items ++ map (λ h. h.seat) (into_iter_items l.held-iterator) ≡ map (λ h. h.seat) l.fn.seats.items;
  asked : All (λ h. (h.promise.gate.value ≡ l.gate) × (h.promise.turns ≡ l.turns)) l.handles.items;
  room : vec_len l.handles + into_iter_len l.held-iterator ≤ vec_capacity l.handles;
  few : vec_len l.handles + into_iter_len l.held-iterator ≤ vec_len l.fn.seats;
}
