use Rattle.std.proofs.Common.{◌≡◌, ◌≢◌, ℕ, List, All, take}
use Rattle.std.specs.Io.KnownBytes.{Consumes}
use Rattle.engine_support.proofs.line_input.read_line.Given as goal

-- so far these bytes of the line were taken, which have no LF, and their front is kept
abbrev pub invariant-loop : goal.invariant-loop
invariant-loop g l = (taken : List ℕ) × (l.line.items ≡ take 1048577 taken) × All (λ byte. byte ≢ 10) taken
    × Consumes (g.R.Read.remaining l.fn.reader) (g.R.Read.remaining l.reader) taken
