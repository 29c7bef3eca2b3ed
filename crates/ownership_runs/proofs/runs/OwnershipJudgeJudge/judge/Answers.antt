use Rattle.ownership_runs.proofs.Judged.{one-violation, none-or-one}
use Rattle.ownership_runs.proofs.runs.OwnershipJudgeJudge.judge.Goals as goal

pub returns-in_err-notes-clause-one_flaw : goal.returns-in_err-notes-clause-one_flaw
returns-in_err-notes-clause-one_flaw g c =
    let it = c.args.self.now in one-violation g.row.B g.row.M it.opening.now it.queue.now it.start c.args.events.now

pub returns-in_err-notes-clause-no_flaw : goal.returns-in_err-notes-clause-no_flaw
returns-in_err-notes-clause-no_flaw g c =
    let it = c.args.self.now in none-or-one g.row.B g.row.M it.opening.now it.queue.now it.start c.args.events.now

pub returns-clause-one_flaw : goal.returns-clause-one_flaw
returns-clause-one_flaw g c =
    let it = c.args.self.now in one-violation g.row.B g.row.M it.opening.now it.queue.now it.start c.args.events.now

pub returns-clause-no_flaw : goal.returns-clause-no_flaw
returns-clause-no_flaw g c =
    let it = c.args.self.now in none-or-one g.row.B g.row.M it.opening.now it.queue.now it.start c.args.events.now
