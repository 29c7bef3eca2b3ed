use Rattle.std.proofs.Common.{◌≡◌, ◌++◌, length}
use Rattle.queue_certificates.specs.Forms.{kept}
use Rattle.known_values.proofs.ranges.push_kept.Given as goal

abbrev pub invariant-loop-ranges : goal.invariant-loop-ranges
invariant-loop-ranges l = l.out.items ++ kept l.ranges l.factors ≡ l.fn.out.items ++ kept l.fn.ranges l.fn.factors

abbrev pub decreases-loop-ranges : goal.decreases-loop-ranges
decreases-loop-ranges l = length l.ranges
