use Rattle.std.proofs.Common.{◌≡◌, ◌++◌, take}
use Rattle.std.specs.Prelude.{All}
use Rattle.surveys.specs.inner.Compact.{bytes_of}
use Rattle.rv_decode.specs.Word.{IsWord}
use Rattle.surveys.proofs.compact.push_bytes.Given as goal

abbrev pub invariant-loop-word : goal.invariant-loop-word
invariant-loop-word l = record {
  bytes : l.out.items ≡ l.fn.out.items ++ bytes_of (take l.word-index l.words);
  all : All IsWord (take l.word-index l.words);
}
