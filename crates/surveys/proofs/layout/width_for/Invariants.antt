use Rattle.std.proofs.Common.{ℕ, ◌≤◌, ◌<◌, ◌^◌}
use Rattle.surveys.proofs.layout.width_for.Given as goal

abbrev pub invariant-loop-width : goal.invariant-loop-width
invariant-loop-width l = (fewer : ℕ) → 1 ≤ fewer → fewer < l.width → 2 ^ fewer < l.wanted
