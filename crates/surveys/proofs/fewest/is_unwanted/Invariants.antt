use Rattle.surveys.specs.inner.Parts.{IsRight, tables_of}
use Rattle.surveys.proofs.fewest.is_unwanted.Given as goal

abbrev pub invariant-loop-hart : goal.invariant-loop-hart
invariant-loop-hart g l = IsRight g.row.B (tables_of g.row.B g.row.M l.tables) l.cache.machine l.cache.steps.items
