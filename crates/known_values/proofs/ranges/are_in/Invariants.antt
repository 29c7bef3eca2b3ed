use Rattle.std.proofs.Common.{◌≡◌, length}
use Rattle.queue_certificates.specs.Forms.{are_in}
use Rattle.known_values.proofs.ranges.are_in.Given as goal

abbrev pub invariant-loop-forms : goal.invariant-loop-forms
invariant-loop-forms l = are_in l.ranges l.forms l.targets ≡ are_in l.fn.ranges l.fn.forms l.fn.targets

abbrev pub decreases-loop-forms : goal.decreases-loop-forms
decreases-loop-forms l = length l.forms
