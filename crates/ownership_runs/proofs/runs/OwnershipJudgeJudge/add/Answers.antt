use Rattle.std.proofs.Common.{[], ◌∷◌}
use Rattle.ownership_runs.proofs.Judged.{one-moved, both-moved}
use Rattle.ownership_runs.proofs.runs.OwnershipJudgeJudge.add.Goals as goal

pub returns : goal.returns
returns g c all events are noted = let it = c.args.self.now in
    both-moved g.row.B g.row.M it.opening.now it.queue.now it.start all (events ∷ []) c.args.moved.now c.args.bench.now.moved _ are
    (one-moved g.row.B g.row.M it.opening.now it.queue.now it.start events c.args.bench.now.machine.history c.args.bench.now.moved noted)
    c.both.ensures.published c.both.ensures.taken
