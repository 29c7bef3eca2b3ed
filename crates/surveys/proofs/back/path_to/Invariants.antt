use Rattle.std.proofs.Common.{◌≡◌, length}
use Rattle.recorder.specs.Schedule.{OfHarts}
use Rattle.surveys.specs.inner.Parts.{IsRight, tables_of}
use Rattle.surveys.proofs.back.path_to.Given as goal

abbrev pub invariant-loop-after : goal.invariant-loop-after
invariant-loop-after g l = record {
  right : IsRight g.row.B (tables_of g.row.B g.row.M l.tables) l.cache.machine l.cache.steps.items;
  harts : OfHarts l.path.items;
  count : length l.path.items ≡ l.after;
}
