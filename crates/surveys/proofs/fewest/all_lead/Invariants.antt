use Rattle.std.proofs.Common.{◌<◌}
use Rattle.step_machine.specs.declared.events.Event.{Event}
use Rattle.recorder.specs.Schedule.{hart_of_event}
use Rattle.surveys.specs.inner.Parts.{IsRight, tables_of}
use Rattle.surveys.proofs.RowLaws.{IsKnownStep}
use Rattle.surveys.proofs.fewest.all_lead.Given as goal

abbrev pub invariant-loop-hart : goal.invariant-loop-hart
invariant-loop-hart g l = record {
  right : IsRight g.row.B (tables_of g.row.B g.row.M l.tables) l.cache.machine l.cache.steps.items;
  known : (ev : Event) → hart_of_event ev < l.hart → IsKnownStep g.row.B (tables_of g.row.B g.row.M l.tables) l.count l.visited l.row ev;
}
