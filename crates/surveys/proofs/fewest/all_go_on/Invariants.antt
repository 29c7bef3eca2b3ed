use Rattle.std.proofs.Common.{◌≡◌, ◌<◌, ◌≤◌, ℕ, Some}
use Rattle.std.specs.List.{slice_get}
use Rattle.step_machine.specs.Positions.{Position, next_position}
use Rattle.surveys.specs.Wanted.{IsWantedAt}
use Rattle.surveys.specs.inner.Levels.{IsExpanded}
use Rattle.surveys.specs.inner.Parts.{IsRight, positions_by, tables_of}
use Rattle.surveys.proofs.fewest.all_go_on.Given as goal

abbrev pub invariant-loop-number : goal.invariant-loop-number
invariant-loop-number g l = record {
  right : IsRight g.row.B (tables_of g.row.B g.row.M l.tables) l.cache.machine l.cache.steps.items;
  go : (number : ℕ) (position : Position) → l.from ≤ number → number < l.number
      → slice_get (positions_by (tables_of g.row.B g.row.M l.tables) l.visited) number ≡ Some position
      → IsExpanded (next_position g.row.B) (IsWantedAt l.test) l.count (positions_by (tables_of g.row.B g.row.M l.tables) l.visited) position;
}
