use Rattle.std.proofs.Common.{◌≡◌, ℕ, ◌<◌, true}
use Rattle.ztso_axioms.specs.Operations.{is_operation, is_at}
use Rattle.ztso_axioms.specs.Axioms.{times_named}
use Rattle.ztso_axioms.proofs.checking.names_each_once.Given as goal

abbrev pub invariant-loop-place : goal.invariant-loop-place
invariant-loop-place l = (p : ℕ) → p < l.place → is_at is_operation l.entries p ≡ true → times_named p l.order ≡ 1
