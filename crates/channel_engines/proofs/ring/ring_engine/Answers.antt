use Rattle.engine_support.proofs.Endings.{ended}
use Rattle.drawn_runs.specs.Samples.{runs_of}
use Rattle.channel_engines.specs.Rings.{IsRingAnswer}
use Rattle.channel_engines.proofs.ring.ring_engine.Goals as goal

pub returns-clause-ends : goal.returns-clause-ends
returns-clause-ends g c =
    ended
    (IsRingAnswer (runs_of g.row.B g.row.M g.G.Rng.stream c.args.sample.now) c.args.place
    (g.S.Read.remaining c.args.sender.now)
    (g.R.Read.remaining c.args.receiver.now) (g.L.Read.remaining c.args.lists.now)) _ c.made.result c.end_with.result g.W.Write.contents _ _
    c.made.ensures.made c.end_with.ensures
