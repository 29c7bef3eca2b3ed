use Rattle.std.proofs.Common.{◌≡◌, length}
use Rattle.texts.specs.Cutting.{tokens}
use Rattle.certificate_reader.specs.Goals.{words_in}
use Rattle.certificate_reader.proofs.Joined.{onto}
use Rattle.certificate_reader.proofs.goals.words.Given as goal

-- the elements so far, and those of the rest, are what the words say
abbrev pub invariant-loop-digits : goal.invariant-loop-digits
invariant-loop-digits l = onto l.numbers.items (words_in (tokens l.rest)) ≡ words_in (tokens l.text)

abbrev pub decreases-loop-digits : goal.decreases-loop-digits
decreases-loop-digits l = length l.rest
