-- A channel that stands goes on standing over an event.
use Rattle.poll_close.proofs.channel.Channel.step.Goals as goal
use Rattle.poll_close.proofs.Standing.{stands-step}

pub invariant_of-self : goal.invariant_of-self
invariant_of-self g c = (
  c.self.invariant.0,
  stands-step g.K.RingKind.ring g.K.RingKind.meaning g.row.B g.row.M c.self.inside.machine c.step.new.self
      c.args.event c.step.result c.laws.ensures.keeps c.self.invariant.1 c.step.ensures.happens c.step.ensures.err,
  c.self.invariant.2,
  c.self.invariant.3,
  c.self.invariant.4,
)
