use Rattle.std.proofs.Common.{◌≡◌, ◌<◌, ◌≤◌, length, map, take}
use Rattle.surveys.specs.inner.Digits.{HasRoomBelow, digits_of}
use Rattle.surveys.proofs.LayoutLaws.{IsBegun}
use Rattle.surveys.proofs.layout.Layout.of.Given as goal

abbrev pub invariant-loop-count : goal.invariant-loop-count
invariant-loop-count g l = record {
  begun : IsBegun g.row.N (map digits_of l.fields.items) l.word l.shift;
  in_word : l.shift ≤ 64;
  word : l.word < 4294967295;
  count : length l.fields.items ≡ l.count-index;
  room : HasRoomBelow (map digits_of l.fields.items) (take l.count-index l.counts);
}
