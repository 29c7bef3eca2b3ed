-- What a channel that stands has reported is clean.
use Rattle.poll_close.proofs.channel.Channel.reports.Goals as goal
use Rattle.poll_close.proofs.Standing.{clean-seen}

pub returns-clause-clean : goal.returns-clause-clean
returns-clause-clean g c = clean-seen g.K.RingKind.ring g.K.RingKind.meaning g.row.B g.row.M c.self.inside.machine _
    _ c.self.view_is c.reports.ensures c.laws.ensures.cleans c.self.invariant.1
