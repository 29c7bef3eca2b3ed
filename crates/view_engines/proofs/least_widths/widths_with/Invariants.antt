use Rattle.std.proofs.Common.{◌≡◌, min, take}
use Rattle.view_engines.specs.LeastWidths.{most, label_of_word, brief_of_word, kept_of_word, store_count}
use Rattle.view_engines.proofs.least_widths.widths_with.Given as goal

abbrev pub invariant-loop-word : goal.invariant-loop-word
invariant-loop-word l = record {
  label : l.least.label ≡ min (most (label_of_word l.name l.number) (take l.word-index l.words)) 255;
  brief : l.least.brief ≡ min (most (brief_of_word l.name l.number) (take l.word-index l.words)) 255;
  kept : l.least.kept ≡ min (most (kept_of_word l.name l.number) (take l.word-index l.words)) 255;
  lanes : l.least.lanes ≡ l.lanes;
  listed_lanes : l.least.listed_lanes ≡ min (store_count l.words) 255;
}
