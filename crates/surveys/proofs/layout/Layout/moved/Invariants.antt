use Rattle.std.proofs.Common.{ℕ, ◌≡◌, ◌<◌, slice_index}
use Rattle.surveys.specs.inner.Digits.{HasRoomFor, numbers_of_key}
use Rattle.surveys.proofs.layout.Layout.moved.Given as goal

abbrev pub invariant-loop-place : goal.invariant-loop-place
invariant-loop-place g l = HasRoomFor l.other (numbers_of_key l.self l.key) → (i : ℕ) → i < l.place
    → slice_index (numbers_of_key l.other l.new) i ≡ slice_index (numbers_of_key l.self l.key) i
