use Rattle.certifying.specs.Descriptions.{count_front}
use Rattle.certifying.proofs.descriptions.push_count_front.Goals as goal

pub returns : goal.returns
unfolding count_front
returns c = rw (← c.queue.view_is) c.write.ensures.bytes
