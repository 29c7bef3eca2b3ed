use Rattle.std.proofs.Common.{[]}
use Rattle.poll_close.specs.Layout.{layout_of}
use Rattle.channel_engines.specs.Channels.{IsChannelAnswer}
use Rattle.engine_support.proofs.Endings.{ended}
use Rattle.channel_engines.proofs.channel.channel_engine.Goals as goal

pub returns-clause-ends : goal.returns-clause-ends
returns-clause-ends g c =
    ended (IsChannelAnswer g.K.RingKind.ring g.row.B g.row.M (layout_of c.args.place []) c.args.finish
    (g.S.Read.remaining c.args.schedule.now) (g.L.Read.remaining c.args.input.now)) _ c.made.result
    c.end_with.result g.W.Write.contents _ _ c.made.ensures.made c.end_with.ensures
