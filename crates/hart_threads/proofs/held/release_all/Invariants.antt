use Rattle.std.proofs.Common.{◌≡◌, ◌≤◌, ◌+◌, ◌++◌, vec_len, vec_capacity}
use Rattle.std.specs.Prelude.{map}
use Rattle.std.specs.Vec.Iter.{into_iter_items, into_iter_len}
use Rattle.hart_threads.proofs.held.release_all.Given as goal

abbrev pub invariant-loop-held : goal.invariant-loop-held
invariant-loop-held g l = record {
  same : l.seats.items ++ map (λ r. r.0.seat) (into_iter_items l.held-iterator) ≡ map (λ r. r.0.seat) l.fn.back.items;
  room : vec_len l.seats + into_iter_len l.held-iterator ≤ vec_capacity l.seats;
}
