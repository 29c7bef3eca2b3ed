use Rattle.std.proofs.Common.{◌≡◌, length}
use Rattle.std.specs.Str.Lines.{lines}
use Rattle.texts.specs.Results.{◌>>=◌}
use Rattle.assembler.specs.Drafts.{all_drafted, all_instructions, assembled}
use Rattle.assembler.proofs.assembling.words_of.Given as goal

abbrev pub invariant-loop-line : goal.invariant-loop-line
invariant-loop-line l = (all_drafted l.draft (lines l.rest) >>= all_instructions) ≡ assembled l.text

abbrev pub decreases-loop-line : goal.decreases-loop-line
decreases-loop-line l = length l.rest
