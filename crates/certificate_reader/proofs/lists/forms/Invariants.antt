use Rattle.std.proofs.Common.{◌≡◌, length}
use Rattle.texts.specs.Cutting.{tokens}
use Rattle.certificate_reader.specs.Lists.{forms_in}
use Rattle.certificate_reader.proofs.Joined.{onto}
use Rattle.certificate_reader.proofs.lists.forms.Given as goal

-- the elements so far, and those of the rest, are what the words say
abbrev pub invariant-loop-word : goal.invariant-loop-word
invariant-loop-word l = onto l.forms.items (forms_in l.variables (tokens l.rest)) ≡ forms_in l.variables (tokens l.text)

abbrev pub decreases-loop-word : goal.decreases-loop-word
decreases-loop-word l = length l.rest
