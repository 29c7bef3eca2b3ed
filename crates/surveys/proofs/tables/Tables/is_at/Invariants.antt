use Rattle.std.proofs.Common.{ℕ, ◌<◌, slice_index}
use Rattle.step_machine.specs.Positions.{position_of}
use Rattle.surveys.specs.inner.Parts.{HasPart, tables_of}
use Rattle.surveys.proofs.tables.Tables.is_at.Given as goal

abbrev pub invariant-loop-hart : goal.invariant-loop-hart
invariant-loop-hart g l = (h : ℕ) → h < l.hart → HasPart (position_of l.machine) h ((tables_of g.row.B g.row.M l.self).parts h (slice_index l.row h))
