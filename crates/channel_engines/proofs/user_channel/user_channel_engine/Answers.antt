use Rattle.std.proofs.Common.{[]}
use Rattle.poll_close.specs.Layout.{layout_of}
use Rattle.engine_support.proofs.Endings.{ended}
use Rattle.channel_engines.specs.UserChannels.{IsUserAnswer}
use Rattle.channel_engines.proofs.user_channel.user_channel_engine.Goals as goal

pub returns-clause-ends : goal.returns-clause-ends
returns-clause-ends g c =
    ended (IsUserAnswer g.row.B g.row.M (layout_of c.args.place []) (g.S.Read.remaining c.args.sender.now) (g.R.Read.remaining c.args.receiver.now)
    (g.C.Read.remaining c.args.schedule.now) (g.L.Read.remaining c.args.lists.now)) _ c.made.result c.end_with.result g.W.Write.contents _ _
    c.made.ensures.made c.end_with.ensures
