use Rattle.std.proofs.Common.{◌≡◌, length}
use Rattle.queue_certificates.specs.Certificates.{all_within}
use Rattle.known_values.specs.Queues.{queue_in}
use Rattle.queue_checker.proofs.arrows.all_within.Given as goal

abbrev pub invariant-values : goal.invariant-values
invariant-values l = all_within (queue_in l.queues) l.ranges l.values l.wanted l.forms
    ≡ all_within (queue_in l.queues) l.ranges l.initial.values l.initial.wanted l.forms

abbrev pub decreases-values : goal.decreases-values
decreases-values l = length l.wanted
