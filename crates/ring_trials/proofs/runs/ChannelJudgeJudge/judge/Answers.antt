use Rattle.std.proofs.lemmas.Result.{IfOk-weaker}
use Rattle.ring_trials.proofs.RunsLaws.{one_violation, clean_has_none, judged_clean}
use Rattle.ring_trials.proofs.runs.ChannelJudgeJudge.judge.Goals as goal

pub returns-clause-good : goal.returns-clause-good
returns-clause-good g c =
    IfOk-weaker c.judge.result _ _
    (λ found judged. judged_clean g.row.B g.row.M c.args.self.now.channel.now c.args.events.now found c.judge.new.shares judged) c.judge.ensures.judged

pub returns-clause-one_flaw : goal.returns-clause-one_flaw
returns-clause-one_flaw g c = one_violation g.row.B g.row.M c.args.self.now.channel.now c.args.events.now

pub returns-clause-no_flaw : goal.returns-clause-no_flaw
returns-clause-no_flaw g c = clean_has_none g.row.B g.row.M c.args.self.now.channel.now c.args.events.now
