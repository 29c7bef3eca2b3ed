use Rattle.std.proofs.Common.{arith}
use Rattle.std.proofs.lemmas.Grind.{common_steps}
use Rattle.known_values.proofs.Ends.{agree_ended, vanishes_ended}
use Rattle.known_values.proofs.forms.agree.Goals as goal
use Rattle.known_values.proofs.forms.agree.Goals.{in_default, in_default-2}

pub returns-then-vanishes : goal.returns-then-vanishes
returns-then-vanishes c = elim c.if-left-lt1.branch [
  | in_default w ↦ grind (arith, common_steps, agree_ended, vanishes_ended)
  | in_default-2 w ↦ grind (arith, common_steps, agree_ended, vanishes_ended)
]
