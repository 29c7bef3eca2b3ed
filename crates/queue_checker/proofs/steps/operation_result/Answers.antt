use Rattle.std.proofs.Common.{ap, rules, w32, SFits}
use Rattle.std.proofs.lemmas.Int.{to_z-of_z}
use Rattle.queue_certificates.specs.{QueueCertificate, KnownState}
use Rattle.queue_checker.proofs.steps.operation_result.Goals as goal

pub returns : goal.returns
returns c =
    let fits : SFits w32 c.args.immediate = search rules in
    rw (
      c.deref.ensures.value,
      c.deref-2.ensures.value,
      ap (λ (q : QueueCertificate). q.queues) c.certificate.view_is,
      ap (λ (k : KnownState). k.ranges) c.state.view_is,
      to_z-of_z w32 c.args.immediate fits,
    ) at c.of_immediate.ensures
