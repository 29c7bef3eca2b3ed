use Rattle.std.proofs.Common.{arith}
use Rattle.std.proofs.lemmas.Grind.{common_steps}
use Rattle.known_values.proofs.Ends.{differences_ended}
use Rattle.known_values.proofs.forms.push_differences.Goals as goal
use Rattle.known_values.proofs.forms.push_differences.Goals.{in_default, in_default-2}

pub returns : goal.returns
returns c = elim c.if-left-lt1.branch [
  | in_default w ↦ grind (arith, common_steps, differences_ended)
  | in_default-2 w ↦ grind (arith, common_steps, differences_ended)
]
