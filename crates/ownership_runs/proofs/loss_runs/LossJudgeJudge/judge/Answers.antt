use Rattle.ownership_runs.proofs.Judged.{one-loss, none-or-lost}
use Rattle.ownership_runs.proofs.loss_runs.LossJudgeJudge.judge.Goals as goal

pub returns-clause-one_flaw : goal.returns-clause-one_flaw
returns-clause-one_flaw g c =
    let it = c.args.self.now in one-loss g.row.B g.row.M it.opening.now it.queue.now it.start it.broken c.args.events.now

pub returns-clause-no_flaw : goal.returns-clause-no_flaw
returns-clause-no_flaw g c =
    let it = c.args.self.now in none-or-lost g.row.B g.row.M it.opening.now it.queue.now it.start it.broken c.args.events.now
