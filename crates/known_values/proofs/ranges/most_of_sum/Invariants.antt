use Rattle.std.proofs.Common.{◌≡◌, length}
use Rattle.queue_certificates.specs.Forms.{most_of_sum, added}
use Rattle.known_values.proofs.ranges.most_of_sum.Given as goal

abbrev pub invariant-loop-ranges : goal.invariant-loop-ranges
invariant-loop-ranges l = added l.total (most_of_sum l.ranges l.factors) ≡ most_of_sum l.fn.ranges l.fn.factors

abbrev pub decreases-loop-ranges : goal.decreases-loop-ranges
decreases-loop-ranges l = length l.ranges
