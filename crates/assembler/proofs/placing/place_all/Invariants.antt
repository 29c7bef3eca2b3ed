use Rattle.std.proofs.Common.{◌≡◌, ◌+◌, ◌≤◌, map, drop, vec_len}
use Rattle.rv_decode.specs.Meaning.{meaning}
use Rattle.assembler.specs.{all_placed, onto, word_count, AllFit, AllPlain, kept_line, place_in}
use Rattle.assembler.proofs.placing.place_all.Given as goal

abbrev pub invariant-loop-index : goal.invariant-loop-index
invariant-loop-index l = record {
  few : vec_len l.words + word_count (map kept_line (drop l.index l.lines)) ≤ 4096;
  fit : AllFit (map kept_line (drop l.index l.lines));
  plain : AllPlain l.words.items;
  so_far : onto (map meaning l.words.items)
      (all_placed (place_in l.places) (vec_len l.words) (l.index + 1) (map kept_line (drop l.index l.lines)))
      ≡ all_placed (place_in l.places) 0 1 (map kept_line l.lines);
}
