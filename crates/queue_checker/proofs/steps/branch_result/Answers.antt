use Rattle.std.proofs.Common.{ap}
use Rattle.queue_certificates.specs.{QueueCertificate, KnownState}
use Rattle.queue_checker.proofs.steps.branch_result.Goals as goal

pub returns : goal.returns
returns c = rw (
  c.deref.ensures.value,
  c.deref-2.ensures.value,
  ap (λ (q : QueueCertificate). q.queues) c.certificate.view_is,
  ap (λ (k : KnownState). k.ranges) c.state.view_is,
) at c.is_branch_taken.ensures
