use Rattle.std.proofs.Common.{◌≡◌, ◌++◌, drop}
use Rattle.std.specs.String.{string_bytes}
use Rattle.engine_support.specs.OpeningTexts.{numbered, word_line}
use Rattle.view_engines.proofs.openings.push_word_lines.Given as goal

abbrev pub invariant-loop-place : goal.invariant-loop-place
invariant-loop-place l = string_bytes l.out ++ numbered word_line l.place (drop l.place l.words) ≡ string_bytes l.fn.out ++ numbered word_line 0 l.words
