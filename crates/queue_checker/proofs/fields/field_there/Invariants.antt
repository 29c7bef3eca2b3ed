use Rattle.std.proofs.Common.{◌≡◌, length}
use Rattle.queue_certificates.specs.Fields.{field_there}
use Rattle.queue_checker.proofs.fields.field_there.Given as goal

abbrev pub invariant-fields : goal.invariant-fields
invariant-fields l = field_there l.fields l.at l.width ≡ field_there l.initial.fields l.at l.width

abbrev pub decreases-fields : goal.decreases-fields
decreases-fields l = length l.fields
