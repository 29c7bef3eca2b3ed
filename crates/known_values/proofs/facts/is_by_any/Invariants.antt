use Rattle.std.proofs.Common.{◌≡◌, length}
use Rattle.std.specs.List.{list_any}
use Rattle.queue_certificates.specs.Facts.{is_by}
use Rattle.known_values.proofs.facts.is_by_any.Given as goal

abbrev pub invariant-loop-facts : goal.invariant-loop-facts
invariant-loop-facts l = list_any (λ h. is_by l.ranges h l.below l.above) l.facts ≡ list_any (λ h. is_by l.fn.ranges h l.fn.below l.fn.above) l.fn.facts

abbrev pub decreases-loop-facts : goal.decreases-loop-facts
decreases-loop-facts l = length l.facts
