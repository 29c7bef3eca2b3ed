use Rattle.std.proofs.Common.{◌<◌, Option, List, length, ap, ◌∙◌}
use Rattle.std.specs.Prelude.{IfSome}
use Rattle.std.proofs.lemmas.Result.{IfOk-weaker}
use Rattle.std.proofs.lemmas.List.{length-map}
use Rattle.record_bytes.specs.Ranges.{has_byte}
use Rattle.queue_certificates.specs.Certificates.{part_of}
use Rattle.records_written.specs.{IsAnswer, Missing, PartyLeaf, receiver_in}
use Rattle.records_written.proofs.Again.{answer-within}
use Rattle.records_written.proofs.once.first_again.Goals as goal

pub returns-clause-within : goal.returns-clause-within
returns-clause-within c = IfOk-weaker c.first_twice.result (IsAnswer c.deref.result.now (has_byte c.args.mask.now))
    (λ (again : Option Missing). IfSome again (λ u. u.state < length (part_of c.args.certificate.now (receiver_in c.args.certificate.now c.args.queue)).states))
    (λ again is. answer-within c.deref.result.now (has_byte c.args.mask.now) again _
    (ap (λ (gs : List (List PartyLeaf)). length gs) (c.deref.ensures.value ∙ c.in_ok-graph.ensures) ∙ length-map _ _) is) c.first_twice.ensures
