use Rattle.std.proofs.Common.{ap}
use Rattle.queue_certificates.specs.Certificates.{QueueCertificate}
use Rattle.queue_checker.proofs.arrows.one_leads.Goals as goal

pub returns : goal.returns
returns c = rw (
  c.listed_states-states.ensures,
  c.in_ok-tags.ensures,
  c.deref.ensures.value,
  ap (λ (q : QueueCertificate). q.queues) c.certificate.view_is,
) at c.leads_among.ensures
