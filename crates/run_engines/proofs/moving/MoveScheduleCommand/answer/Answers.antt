use Rattle.std.proofs.Common.{◌≤◌, length, sym, ap, subst, arith}
use Rattle.std.proofs.lemmas.List.{length-map}
use Rattle.std.specs.Global.{Vec}
use Rattle.recorder.specs.{Step, OfHarts, schedule_value}
use Rattle.engine_support.specs.{Records, text_and_value}
use Rattle.engine_support.proofs.ScheduleLaws.{stopped_by}
use Rattle.run_engines.specs.Run.{IsMoved}
use Rattle.run_engines.proofs.moving.MoveScheduleCommand.answer.Goals as goal

-- The steps are of the harts of the events that were read, and no more than these.
pub returns : goal.returns
returns g c =
    let steps = c.in_ok-steps.steps.items in
    let records = c.in_ok-steps.ensures in
    let writable = c.records_can_be_written.ensures.runs g.row.B g.row.M c.args.test.now.opening steps records.1.0 records.1.2
    (subst OfHarts (sym records.0) c.requires.harts) in
    let few : length steps ≤ 1048576 = omega (arith, length-map steps (λ (step : Step). step.0), ap length records.0, c.requires.few) in
    let written = rw c.deref.ensures.value at c.in_ok-text.ensures in
    (steps, records, written.canonical, written.again writable few)

pub returns-in_err-steps : goal.returns-in_err-steps
returns-in_err-steps g c =
    stopped_by (Records g.row.B g.row.M c.args.test.now.opening (schedule_value c.args.parsed))
    (IsMoved g.row.B g.row.M c.args.test.now (schedule_value c.args.parsed))
    (λ (steps : Vec Step). steps.items) text_and_value c.from_residual.result c.in_err-steps.field-0.0
    (λ refusal differs. differs) c.from_residual.ensures.1
    c.in_err-steps.ensures
