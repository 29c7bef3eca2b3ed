use Rattle.std.proofs.Common.{ℕ, ◌<◌, get_or}
use Rattle.ztso_axioms.specs.Axioms.{HasLoadValue}
use Rattle.ztso_axioms.proofs.checking.has_load_values.Given as goal

abbrev pub invariant-loop-index : goal.invariant-loop-index
invariant-loop-index l = (i : ℕ) → i < l.index → HasLoadValue l.trace.opening l.trace.entries l.order (get_or l.order i 0)
