use Rattle.std.proofs.Common.{◌≡◌, ℕ, List, ◌++◌}
use Rattle.std.specs.List.{flat_map}
use Rattle.std.specs.Io.KnownBytes.{Appends}
use Rattle.engine_support.specs.inner.{lines_in, row_line}
use Rattle.engine_support.proofs.outcomes.Outcomes.write_lines.Given as goal

-- what is written, and what is left to write, is all
abbrev pub invariant-loop-outcome : goal.invariant-loop-outcome
invariant-loop-outcome g l = (out : List ℕ) × Appends (g.W.Write.contents l.fn.writer) (g.W.Write.contents l.writer) out
    × (out ++ flat_map (row_line g.F.FirstRun.name l.test) l.outcome-iterator ≡ lines_in g.F.FirstRun.name l.test l.fn.self)
