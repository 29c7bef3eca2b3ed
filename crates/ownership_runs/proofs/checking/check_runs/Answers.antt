use Rattle.std.proofs.Common.{length, subst}
use Rattle.std.proofs.lemmas.Result.{IfOk-weaker}
use Rattle.rand_core.specs.Stream.{Stream}
use Rattle.drawn_runs.specs.Samples.{runs_of, schedule_in}
use Rattle.judged_runs.specs.Telling.{IsTold}
use Rattle.judged_runs.proofs.Better.{told_better}
use Rattle.ownership_runs.specs.Runs.{HasKeptRun, BreaksNothing, HasBrokenRun, IsOfOneKind, AreMovesOf}
use Rattle.ownership_runs.proofs.Judged.{kept-run}
use Rattle.ownership_runs.proofs.checking.check_runs.Goals as goal

pub returns : goal.returns
returns g c =
    let o = c.args.opening.now in
    let q = c.args.queue.now in
    let start = c.args.start in
    let d = runs_of g.row.B g.row.M g.G.Rng.stream c.args.sample.now in
    let Good = BreaksNothing g.row.B g.row.M o q start in
    let Keeps = HasKeptRun g.row.B g.row.M o q start in
    let Has = HasBrokenRun g.row.B g.row.M o q start in
    let Counts = AreMovesOf g.row.B g.row.M o q start in
    let schedule = λ (s : Stream). schedule_in (record d { stream = s }) (length o.harts) in
    IfOk-weaker c.told_of_runs.result (λ told. IsTold Good Has IsOfOneKind Counts (schedule (g.G.Rng.stream c.in_ok-from.from)) d.number told)
    (λ told. IsTold Keeps Has IsOfOneKind Counts (schedule d.stream) d.number told)
    (λ told is. told_better Good Keeps Has IsOfOneKind Counts (schedule d.stream) d.number
    (λ events free. kept-run g.row.B g.row.M o q start events c.requires.some_slot free) told
    (subst (λ (s : Stream). IsTold Good Has IsOfOneKind Counts (schedule s) d.number told) {y = d.stream} c.in_ok-from.ensures is))
    c.told_of_runs.ensures
