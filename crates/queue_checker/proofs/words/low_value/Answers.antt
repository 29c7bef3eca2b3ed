use Rattle.std.proofs.Common.{ap}
use Rattle.queue_certificates.specs.{QueueCertificate, KnownState}
use Rattle.queue_checker.proofs.words.low_value.Goals as goal

pub returns : goal.returns
returns c = rw (
  c.in_ok-form.ensures,
  c.deref-queues.ensures.value,
  c.deref-ranges.ensures.value,
  ap (λ (q : QueueCertificate). q.queues) c.certificate.view_is,
  ap (λ (k : KnownState). k.ranges) c.state.view_is,
) at c.low_bytes.ensures
