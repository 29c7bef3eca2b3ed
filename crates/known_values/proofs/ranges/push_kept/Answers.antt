use Rattle.std.proofs.Common.{arith}
use Rattle.std.proofs.lemmas.Grind.{common_steps}
use Rattle.known_values.proofs.Ends.{kept_ended}
use Rattle.known_values.proofs.ranges.push_kept.Goals as goal
use Rattle.known_values.proofs.ranges.push_kept.Goals.{in_default, in_default-2}

pub returns : goal.returns
returns c = elim c.if-ranges-lt1.branch [
  | in_default w ↦ grind (arith, common_steps, kept_ended)
  | in_default-2 w ↦ grind (arith, common_steps, kept_ended)
]
