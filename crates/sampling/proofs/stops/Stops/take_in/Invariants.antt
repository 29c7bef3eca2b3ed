use Rattle.std.proofs.Common.{◌≡◌, ◌+◌, ◌<◌, ◌≤◌, ℕ, min, length}
use Rattle.std.specs.Prelude.{slice_index}
use Rattle.sampling.specs.inner.Stops.{MOST_TIMES}
use Rattle.sampling.proofs.stops.Stops.take_in.Given as goal

-- the places before this one have both, and the others what they had
abbrev pub invariant-loop-place : goal.invariant-loop-place
invariant-loop-place l = record {
  count : length l.self ≡ length l.fn.self;
  both : (p : ℕ) → p < l.place → p < length l.fn.self → slice_index l.fn.self p ≤ MOST_TIMES
      → slice_index l.self p ≡ min (slice_index l.fn.self p + slice_index l.later p) MOST_TIMES;
  rest : (p : ℕ) → l.place ≤ p → slice_index l.self p ≡ slice_index l.fn.self p;
}
