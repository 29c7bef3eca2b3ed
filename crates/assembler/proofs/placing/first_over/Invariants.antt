use Rattle.std.proofs.Common.{◌≡◌, ◌+◌, ◌≤◌, map, drop}
use Rattle.assembler.specs.{line_over, kept_line}
use Rattle.assembler.proofs.placing.first_over.Given as goal

abbrev pub invariant-loop-index : goal.invariant-loop-index
invariant-loop-index l = record {
  few : l.words ≤ 4096;
  so_far : line_over l.words (l.index + 1) (map kept_line (drop l.index l.lines)) ≡ line_over 0 1 (map kept_line l.lines);
}
