use Rattle.std.proofs.Common.{ℕ, ◌≡◌, ◌<◌, ◌≤◌, [], length}
use Rattle.std.specs.List.{slice_index_or}
use Rattle.surveys.specs.inner.Digits.{HasRoomFor, numbers_of_key}
use Rattle.surveys.proofs.keys.Keys.move_to.Given as goal

abbrev pub invariant-loop-index : goal.invariant-loop-index
invariant-loop-index g l = record {
  count : length l.self-inside.keys.items ≡ length l.fn.self;
  moved : (i : ℕ) → i < l.index → HasRoomFor l.new (numbers_of_key l.old (slice_index_or l.fn.self i []))
      → numbers_of_key l.new (slice_index_or l.self-inside.keys.items i []) ≡ numbers_of_key l.old (slice_index_or l.fn.self i []);
  left : (i : ℕ) → l.index ≤ i → slice_index_or l.self-inside.keys.items i [] ≡ slice_index_or l.fn.self i [];
}
