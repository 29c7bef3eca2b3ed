use Rattle.std.proofs.Common.{◌≡◌, ℕ, ◌<◌, ◌+◌, get_or}
use Rattle.std.specs.Int.{byte_at}
use Rattle.ztso_axioms.specs.Axioms.{byte_for}
use Rattle.ztso_axioms.proofs.checking.has_bytes.Given as goal

abbrev pub invariant-loop-place : goal.invariant-loop-place
invariant-loop-place l = (i : ℕ) → i < l.place → byte_at i l.value ≡ byte_for l.trace.opening l.trace.entries l.order (get_or l.order l.index 0) (l.addr + i)
