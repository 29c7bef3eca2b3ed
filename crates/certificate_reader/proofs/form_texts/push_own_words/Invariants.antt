use Rattle.std.proofs.Common.{◌≡◌, ◌++◌, map, take}
use Rattle.std.specs.String.{string_bytes}
use Rattle.certificate_reader.specs.Writing.{own_word_text, spaced}
use Rattle.certificate_reader.proofs.form_texts.push_own_words.Given as goal

abbrev pub invariant-loop-word : goal.invariant-loop-word
invariant-loop-word l = string_bytes l.out ≡ string_bytes l.fn.out ++ spaced (map own_word_text (take l.word-index l.own))
