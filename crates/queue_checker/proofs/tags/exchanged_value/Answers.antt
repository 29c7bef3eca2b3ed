use Rattle.std.proofs.Common.{ap}
use Rattle.queue_certificates.specs.States.{KnownState}
use Rattle.queue_checker.proofs.tags.exchanged_value.Goals as goal

pub returns : goal.returns
returns c = rw (
  c.in_ok-with.ensures,
  c.any.ensures,
  c.deref.ensures.value,
  ap (λ (k : KnownState). k.ranges) c.state.view_is,
) at c.updated_value-2.ensures
