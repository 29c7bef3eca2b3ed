use Rattle.std.proofs.Common.{ℕ, ◌<◌}
use Rattle.callers.specs.inner.{StandsAt}
use Rattle.callers.proofs.locating.line_of.Given as goal

abbrev pub invariant-loop-line : goal.invariant-loop-line
invariant-loop-line l = (m : ℕ) → m < l.line → StandsAt l.words l.code m → ⊥
