use Rattle.std.proofs.Common.{◌≤◌, ◌+◌, vec_len, vec_capacity}
use Rattle.std.specs.Vec.Iter.{into_iter_items, into_iter_len}
use Rattle.hart_threads.specs.inner.{Ran}
use Rattle.hart_threads.proofs.Coming.{Joined}
use Rattle.hart_threads.proofs.harts.join_all.Given as goal

abbrev pub invariant-loop-handle : goal.invariant-loop-handle
invariant-loop-handle g l = record {
  joined : Joined
      (λ h r. Ran (g.G.Gate.is_open h.promise.gate.value) h.promise.turns h.promise.given.value.seat r.1 r.2 r.0.seat)
      l.fn.handles.items (into_iter_items l.handle-iterator) l.back.items;
  room : vec_len l.back + into_iter_len l.handle-iterator ≤ vec_capacity l.back;
  few : vec_len l.back + into_iter_len l.handle-iterator ≤ vec_len l.fn.handles;
}
