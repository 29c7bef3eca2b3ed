use Rattle.std.proofs.Common.{ap}
use Rattle.queue_certificates.specs.Certificates.{QueueCertificate}
use Rattle.queue_checker.proofs.stores.plain_sum.Goals as goal

pub returns : goal.returns
returns c = rw (
  c.in_ok-left.ensures,
  c.in_ok-right.ensures,
  c.deref.ensures.value,
  c.deref-2.ensures.value,
  ap (λ (q : QueueCertificate). q.queues) c.certificate.view_is,
) at c.sum_of.ensures
