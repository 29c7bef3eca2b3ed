use Rattle.std.proofs.Common.{◌≡◌, length}
use Rattle.queue_certificates.specs.Certificates.{are_in_ranges}
use Rattle.queue_checker.proofs.opening.are_in_ranges.Given as goal

abbrev pub invariant-pairs : goal.invariant-pairs
invariant-pairs l = are_in_ranges l.ranges l.numbers ≡ are_in_ranges l.initial.ranges l.initial.numbers

abbrev pub decreases-pairs : goal.decreases-pairs
decreases-pairs l = length l.ranges
