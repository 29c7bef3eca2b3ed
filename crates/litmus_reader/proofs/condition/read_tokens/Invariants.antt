use Rattle.std.proofs.Common.{◌≡◌, [], length}
use Rattle.litmus_tokens.specs.Tokens.{tokens_of}
use Rattle.litmus_reader.specs.Condition.{tokens_added}
use Rattle.litmus_reader.proofs.condition.read_tokens.Given as goal

abbrev pub invariant-loop-draft : goal.invariant-loop-draft
invariant-loop-draft l = tokens_added l.harts (l.draft, l.locations) (tokens_of l.rest) ≡ tokens_added l.harts ([], l.fn.locations) (tokens_of l.text)

abbrev pub decreases-loop-draft : goal.decreases-loop-draft
decreases-loop-draft l = length l.rest
