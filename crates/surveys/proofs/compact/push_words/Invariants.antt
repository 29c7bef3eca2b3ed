use Rattle.std.proofs.Common.{◌≡◌, ◌++◌, drop}
use Rattle.surveys.specs.inner.Compact.{words_from, words_in}
use Rattle.surveys.proofs.compact.push_words.Given as goal

abbrev pub invariant-loop-byte : goal.invariant-loop-byte
invariant-loop-byte l = l.out.items ++ words_from l.word (drop l.byte-index l.bytes) ≡ l.fn.out.items ++ words_in l.bytes
