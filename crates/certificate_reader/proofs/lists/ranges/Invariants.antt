use Rattle.std.proofs.Common.{◌≡◌, length}
use Rattle.texts.specs.Cutting.{tokens}
use Rattle.certificate_reader.specs.Lists.{ranges_in}
use Rattle.certificate_reader.proofs.Joined.{onto}
use Rattle.certificate_reader.proofs.lists.ranges.Given as goal

-- the elements so far, and those of the rest, are what the words say
abbrev pub invariant-loop-word : goal.invariant-loop-word
invariant-loop-word l = onto l.ranges.items (ranges_in (tokens l.rest)) ≡ ranges_in (tokens l.text)

abbrev pub decreases-loop-word : goal.decreases-loop-word
decreases-loop-word l = length l.rest
