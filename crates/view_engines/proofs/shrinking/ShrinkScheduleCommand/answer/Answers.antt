use Rattle.std.proofs.Common.{◌∙◌, ap, arith}
use Rattle.step_machine.specs.History.{HistoryWithRoom}
use Rattle.recorder.specs.{events_of_schedule, schedule_value, canon}
use Rattle.engine_support.specs.Runs.{Runs}
use Rattle.engine_support.specs.inner.{text_and_value}
use Rattle.engine_support.proofs.{opening_stays, runs_events, stopped_by}
use Rattle.view_engines.specs.Shrink.{IsShrink, differs}
use Rattle.view_engines.proofs.ShrinkLaws.{part_OfHarts, part_few, not_shrunk}
use Rattle.view_engines.proofs.shrinking.ShrinkScheduleCommand.answer.Goals as goal

pub returns-in_err-machine : goal.returns-in_err-machine
returns-in_err-machine g c =
    let parsed = schedule_value c.args.parsed in
    stopped_by (Runs g.row.B g.row.M c.args.test.now.opening parsed) (IsShrink g.row.B g.row.M c.args.test.now parsed)
    (λ (machine : HistoryWithRoom). machine.history) text_and_value c.from_residual.result c.in_err-machine.field-0.0
    (λ refusal differ. differs refusal differ) c.from_residual.ensures.1 c.in_err-machine.ensures.ran

pub shrink_run-requires : goal.shrink_run-requires
shrink_run-requires g c =
    let machine = c.in_ok-machine in
    let stays = opening_stays g.row.B g.row.M c.args.test.now.opening (schedule_value c.args.parsed) machine.machine.history machine.ensures.ran in
    (omega arith, (stays, machine.ensures.names))

pub write_schedule-requires-clause-harts : goal.write_schedule-requires-clause-harts
write_schedule-requires-clause-harts g c =
    let parsed = schedule_value c.args.parsed in
    let machine = c.in_ok-machine in
    let run = runs_events g.row.B g.row.M c.args.test.now.opening parsed machine.machine.history machine.ensures.ran in
    let shrunk = c.in-Ok.ensures.shrunk (events_of_schedule parsed) run in
    rw c.deref.ensures.value (part_OfHarts c.in-Ok.events.items (events_of_schedule parsed) shrunk.part c.requires.harts)

pub write_schedule-requires-clause-few : goal.write_schedule-requires-clause-few
write_schedule-requires-clause-few g c =
    let parsed = schedule_value c.args.parsed in
    let machine = c.in_ok-machine in
    let run = runs_events g.row.B g.row.M c.args.test.now.opening parsed machine.machine.history machine.ensures.ran in
    let shrunk = c.in-Ok.ensures.shrunk (events_of_schedule parsed) run in
    rw c.deref.ensures.value (omega (arith, part_few c.in-Ok.events.items (events_of_schedule parsed) shrunk.part, c.requires.few))

pub returns-in_ok-text-in-Ok : goal.returns-in_ok-text-in-Ok
returns-in_ok-text-in-Ok g c =
    let parsed = schedule_value c.args.parsed in
    let machine = c.in_ok-machine in
    let run = runs_events g.row.B g.row.M c.args.test.now.opening parsed machine.machine.history machine.ensures.ran in
    record {
      history = machine.machine.history;
      ran = machine.ensures.ran;
      events = c.in-Ok.events.items;
      shrunk = c.in-Ok.ensures.shrunk (events_of_schedule parsed) run;
      written = c.in_ok-text-in-Ok.ensures.canonical ∙ ap canon c.deref.ensures.value;
    }

pub returns-in-Err : goal.returns-in-Err
returns-in-Err g c =
    not_shrunk g.row.B g.row.M c.args.test.now (schedule_value c.args.parsed) text_and_value c.in_ok-machine.machine.history c.in-Err.error
    c.shrink_fault.result c.in_ok-machine.ensures.ran c.in-Err.ensures.refused c.shrink_fault.ensures
