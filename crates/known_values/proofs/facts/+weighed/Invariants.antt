use Rattle.std.proofs.Common.{length}
use Rattle.known_values.proofs.facts.+weighed.Given as goal

abbrev pub decreases-weighed : goal.decreases-weighed
decreases-weighed l = length l.multipliers.now
