use Rattle.std.proofs.Common.{ap}
use Rattle.step_machine.specs.History.{OpeningValue}
use Rattle.queue_certificates.specs.{QueueCertificate, KnownState}
use Rattle.queue_checker.proofs.opening.own_words_open.Goals as goal

pub returns : goal.returns
returns c = rw (
  c.own_words-own.ensures,
  c.deref-queues.ensures.value,
  c.deref-values.ensures.value,
  c.deref-words.ensures.value,
  ap (λ (q : QueueCertificate). q.queues) c.certificate.view_is,
  ap (λ (k : KnownState). k.words) c.state.view_is,
  ap (λ (o : OpeningValue). o.words) c.opening.view_is,
) at c.are_own_words.ensures
