use Rattle.std.proofs.Common.{◌≡◌, ◌↔◌, ◌≤◌, ◌^◌, length}
use Rattle.std.specs.List.{AllZip}
use Rattle.surveys.specs.inner.Digits.{HasRoomBelow}
use Rattle.surveys.proofs.layout.Layout.holds.Given as goal

abbrev pub invariant-loop-field : goal.invariant-loop-field
invariant-loop-field g l = record {
  count : length l.counts ≡ length l.self → length l.field-iterator.a.rest.now ≡ length l.field-iterator.b.rest.now;
  room : HasRoomBelow l.self l.counts ↔ AllZip (λ field count. count ≤ 2 ^ field.width) l.field-iterator.a.rest.now l.field-iterator.b.rest.now;
}
