use Rattle.std.proofs.Common.{arith}
use Rattle.step_machine.specs.History.{HistoryWithRoom}
use Rattle.litmus_reader.specs.Headings.{heading_of}
use Rattle.recorder.specs.Versions.{schedule_value}
use Rattle.engine_support.specs.Runs.{Runs}
use Rattle.engine_support.specs.inner.{text_and_value}
use Rattle.engine_support.proofs.{opening_stays, stopped_by}
use Rattle.view_engines.specs.Chart.{IsChart, differs, drawing}
use Rattle.view_engines.proofs.charting.picture.Goals as goal

pub picture_of_run-requires : goal.picture_of_run-requires
picture_of_run-requires g c =
    let machine = c.in_ok-machine.machine in
    let stays = opening_stays g.row.B g.row.M c.args.test.now.opening (schedule_value c.args.schedule) machine.history c.in_ok-machine.ensures.ran in
    (omega arith, (c.requires.size, (stays, (c.requires.locations, c.in_ok-machine.ensures.names))))

pub returns-in_err-machine : goal.returns-in_err-machine
returns-in_err-machine g c =
    let q = c.args.test.now in
    let parsed = schedule_value c.args.schedule in
    stopped_by (Runs g.row.B g.row.M q.opening parsed)
    (IsChart g.row.B g.row.M (drawing c.args.style c.args.selection) (heading_of c.args.heading.now) q parsed)
    (λ (machine : HistoryWithRoom). machine.history) text_and_value c.from_residual.result c.in_err-machine.field-0.0
    (λ refusal differ. differs refusal differ) c.from_residual.ensures.1 c.in_err-machine.ensures.ran
