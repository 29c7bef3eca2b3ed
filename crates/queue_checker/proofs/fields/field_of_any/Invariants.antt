use Rattle.std.proofs.Common.{◌≡◌}
use Rattle.queue_certificates.specs.{queue_at, fields_at, field_below}
use Rattle.queue_checker.proofs.fields.field_of_any.Given as goal

abbrev pub invariant-loop-i : goal.invariant-loop-i
invariant-loop-i l = let c = l.certificate in
    l.found ≡ field_below (queue_at c) (fields_at c) l.hart l.state l.place l.width l.i
