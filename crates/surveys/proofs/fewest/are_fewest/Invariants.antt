use Rattle.std.proofs.Common.{◌≤◌, length}
use Rattle.step_machine.specs.Positions.{next_position, position_of}
use Rattle.surveys.specs.Wanted.{IsWantedAt}
use Rattle.surveys.specs.inner.Levels.{IsSearched}
use Rattle.surveys.specs.inner.Parts.{IsRight, positions_by, tables_of}
use Rattle.surveys.proofs.fewest.are_fewest.Given as goal

abbrev pub invariant-loop-end : goal.invariant-loop-end
invariant-loop-end g l = record {
  right : IsRight g.row.B (tables_of g.row.B g.row.M l.tables) l.cache.machine l.cache.steps.items;
  within : l.level ≤ length l.visited;
  searched : IsSearched (next_position g.row.B) (IsWantedAt l.test) (position_of l.tables.opening)
      (positions_by (tables_of g.row.B g.row.M l.tables) l.visited) l.from l.level l.end-index;
}
