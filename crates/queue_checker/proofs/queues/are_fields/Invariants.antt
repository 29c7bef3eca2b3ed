use Rattle.std.proofs.Common.{◌≡◌, length}
use Rattle.std.specs.List.{list_all}
use Rattle.queue_certificates.specs.Fields.{is_field}
use Rattle.queue_checker.proofs.queues.are_fields.Given as goal

abbrev pub invariant-fields : goal.invariant-fields
invariant-fields l = list_all (is_field l.queue) l.fields ≡ list_all (is_field l.queue) l.initial.fields

abbrev pub decreases-fields : goal.decreases-fields
decreases-fields l = length l.fields
