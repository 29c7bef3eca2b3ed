use Rattle.std.proofs.Common.{◌≡◌, length}
use Rattle.texts.specs.Cutting.{tokens}
use Rattle.certificate_reader.specs.Lists.{own_words_in}
use Rattle.certificate_reader.proofs.Joined.{onto}
use Rattle.certificate_reader.proofs.lists.own_words.Given as goal

-- the elements so far, and those of the rest, are what the words say
abbrev pub invariant-loop-word : goal.invariant-loop-word
invariant-loop-word l = onto l.own.items (own_words_in (tokens l.rest)) ≡ own_words_in (tokens l.text)

abbrev pub decreases-loop-word : goal.decreases-loop-word
decreases-loop-word l = length l.rest
