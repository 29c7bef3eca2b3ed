use Rattle.std.proofs.Common.{lit<}
use Rattle.ring_trials.proofs.JudgingLaws.{opening_fits}
use Rattle.ring_trials.proofs.runs.ChannelJudgeJudge.bench.Goals as goal

pub open-requires : goal.open-requires
open-requires g c =
    let it = c.args.self.now in
    (lit< tt, (it.can.0, (it.can.1, opening_fits g.row.M it.channel.now it.opening.now it.can.2)))
