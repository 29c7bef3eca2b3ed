use Rattle.std.proofs.Common.{◌≡◌, ◌+◌, ◌<◌, ◌≤◌, ℕ, min, length, take}
use Rattle.std.specs.Prelude.{count_by, slice_index}
use Rattle.sampling.specs.inner.Stops.{MOST_TIMES, is_at}
use Rattle.sampling.proofs.stops.Stops.note_each.Given as goal

abbrev pub invariant-loop-one : goal.invariant-loop-one
invariant-loop-one l = record {
  count : length l.self ≡ length l.fn.self;
  times : (p : ℕ) → p < length l.fn.self → slice_index l.fn.self p ≤ MOST_TIMES
      → slice_index l.self p ≡ min (slice_index l.fn.self p + count_by (is_at p) (take l.one-index l.stopped)) MOST_TIMES;
}
