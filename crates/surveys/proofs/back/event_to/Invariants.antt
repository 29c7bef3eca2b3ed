use Rattle.std.proofs.Common.{◌<◌}
use Rattle.std.specs.Prelude.{IfSome}
use Rattle.step_machine.specs.declared.opening.TheConstants.{MAX_HARTS}
use Rattle.recorder.specs.Schedule.{hart_of_event}
use Rattle.surveys.specs.inner.Parts.{IsRight, tables_of}
use Rattle.surveys.proofs.back.event_to.Given as goal

abbrev pub invariant-loop-hart : goal.invariant-loop-hart
invariant-loop-hart g l = record {
  right : IsRight g.row.B (tables_of g.row.B g.row.M l.tables) l.cache.machine l.cache.steps.items;
  landing : IfSome l.landing (λ event. hart_of_event event < MAX_HARTS);
}
