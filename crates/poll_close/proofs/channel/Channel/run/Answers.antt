-- A channel that stands goes on standing over a run.
use Rattle.poll_close.proofs.channel.Channel.run.Goals as goal
use Rattle.poll_close.proofs.Standing.{stands-ran}

pub invariant_of-self : goal.invariant_of-self
invariant_of-self g c = (
  c.self.invariant.0,
  stands-ran g.K.RingKind.ring g.K.RingKind.meaning g.row.B g.row.M c.self.inside.machine c.run.new.self
      c.args.events.now c.run.result c.laws.ensures.keeps c.self.invariant.1 c.run.ensures.ok c.run.ensures.err,
  c.self.invariant.2,
  c.self.invariant.3,
  c.self.invariant.4,
)
