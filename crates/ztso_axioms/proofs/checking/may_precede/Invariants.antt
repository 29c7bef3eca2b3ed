use Rattle.std.proofs.Common.{◌≡◌, ℕ, false, take}
use Rattle.std.specs.Prelude.{All}
use Rattle.ztso_axioms.specs.Axioms.{is_preserved}
use Rattle.ztso_axioms.proofs.checking.may_precede.Given as goal

abbrev pub invariant-loop-other : goal.invariant-loop-other
invariant-loop-other l = All (λ (p : ℕ). is_preserved l.entries p l.op ≡ false) (take l.other-index l.others)
