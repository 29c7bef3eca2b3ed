use Rattle.std.proofs.Common.{◌≡◌, ℕ, ◌<◌, false, drop, get_or}
use Rattle.std.specs.Prelude.{All}
use Rattle.ztso_axioms.specs.Axioms.{is_preserved}
use Rattle.ztso_axioms.proofs.checking.keeps_program_order.Given as goal

abbrev pub invariant-loop-index : goal.invariant-loop-index
invariant-loop-index l = (i : ℕ) → i < l.index → All (λ (p : ℕ). is_preserved l.entries p (get_or l.order i 0) ≡ false) (drop i l.order)
