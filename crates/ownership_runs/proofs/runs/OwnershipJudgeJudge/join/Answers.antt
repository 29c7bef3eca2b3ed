use Rattle.ownership_runs.proofs.Judged.{both-moved}
use Rattle.ownership_runs.proofs.runs.OwnershipJudgeJudge.join.Goals as goal

pub returns : goal.returns
returns g c all more are others = let it = c.args.self.now in
    both-moved g.row.B g.row.M it.opening.now it.queue.now it.start all more c.args.moved.now c.args.later _ are others
    c.both.ensures.published c.both.ensures.taken
