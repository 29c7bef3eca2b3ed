use Rattle.std.proofs.Common.{arith}
use Rattle.std.proofs.lemmas.Grind.{common_steps}
use Rattle.known_values.proofs.Ends.{are_in_ended}
use Rattle.known_values.proofs.ranges.are_in.Goals as goal
use Rattle.known_values.proofs.ranges.are_in.Goals.{in_default, in_default-2}

pub returns-else-is_empty : goal.returns-else-is_empty
returns-else-is_empty c = elim c.if-forms-lt1.branch [
  | in_default w ↦ grind (arith, common_steps, are_in_ended)
  | in_default-2 w ↦ grind (arith, common_steps, are_in_ended)
]
