use Rattle.std.proofs.Common.{◌≡◌, ◌+◌, ◌*◌, ◌++◌, drop}
use Rattle.std.specs.String.{string_bytes}
use Rattle.view_engines.specs.TestLines.{code_word_lines}
use Rattle.view_engines.proofs.test_lines.push_word_lines.Given as goal

abbrev pub invariant-loop-word : goal.invariant-loop-word
invariant-loop-word l = record {
  at : l.at ≡ l.pc + 4 * l.word-index;
  so_far : string_bytes l.out
      ++ code_word_lines l.hart l.at l.line (drop l.word-index l.words) ≡ string_bytes l.fn.out
      ++ code_word_lines l.hart l.pc l.line l.words;
}
