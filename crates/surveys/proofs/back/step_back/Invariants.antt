use Rattle.surveys.specs.inner.Parts.{IsRight, tables_of}
use Rattle.surveys.proofs.back.step_back.Given as goal

abbrev pub invariant-loop-number : goal.invariant-loop-number
invariant-loop-number g l = IsRight g.row.B (tables_of g.row.B g.row.M l.tables) l.cache.machine l.cache.steps.items
