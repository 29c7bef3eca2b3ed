use Rattle.certifying.specs.Descriptions.{field_front}
use Rattle.certifying.proofs.descriptions.push_field_front.Goals as goal

pub returns : goal.returns
unfolding field_front
returns c = rw (← c.field.view_is) c.write.ensures.bytes
