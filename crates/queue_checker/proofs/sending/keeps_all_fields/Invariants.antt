use Rattle.std.proofs.Common.{◌≡◌, ◌==◌, ◌||◌, [], length, get_or}
use Rattle.queue_certificates.specs.{all_below, fields_at, keeps_fields}
use Rattle.queue_checker.proofs.sending.keeps_all_fields.Given as goal

abbrev pub invariant-loop-i : goal.invariant-loop-i
invariant-loop-i l = l.all ≡ all_below l.i (λ i. (length (fields_at l.certificate i) == 0)
    || keeps_fields l.certificate l.hart l.code i (get_or l.listed.filled i []) l.listed.known l.listed.cases)
