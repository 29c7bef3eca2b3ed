use Rattle.std.proofs.Common.{◌≡◌, ℕ, suc, nat_lt, take, drop}
use Rattle.std.specs.List.{list_any}
use Rattle.ztso_axioms.specs.Axioms.{is_barrier}
use Rattle.ztso_axioms.proofs.checking.last_barrier.Given as goal

abbrev pub invariant-loop-place : goal.invariant-loop-place
invariant-loop-place l = (p : ℕ) → list_any (is_barrier l.hart) (drop (suc p) (take l.place l.entries)) ≡ nat_lt p l.last
