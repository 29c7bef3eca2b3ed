use Rattle.std.proofs.Common.{length, subst}
use Rattle.std.specs.Prelude.{IfOk}
use Rattle.rand_core.specs.Stream.{Stream}
use Rattle.drawn_runs.specs.Samples.{runs_of, schedule_in}
use Rattle.judged_runs.specs.Telling.{IsTold}
use Rattle.ownership_runs.specs.Runs.{LosesNothing, HasLoss, IsLossOfOneKind, CountsNothing}
use Rattle.ownership_runs.proofs.checking.check_losses.Goals as goal

pub returns : goal.returns
returns g c =
    let o = c.args.opening.now in
    let q = c.args.queue.now in
    let start = c.args.start in
    let d = runs_of g.row.B g.row.M g.G.Rng.stream c.args.sample.now in
    let schedule = λ (s : Stream). schedule_in (record d { stream = s }) (length o.harts) in
    subst (λ (s : Stream). IfOk c.told_of_runs.result (λ told. IsTold (LosesNothing g.row.B g.row.M o q start c.args.broken)
    (HasLoss g.row.B g.row.M o q start c.args.broken)
    IsLossOfOneKind (λ all nothing. CountsNothing) (schedule s) d.number told)) {y = d.stream} c.in_ok-after.ensures c.told_of_runs.ensures
