use Rattle.std.proofs.Common.{◌≡◌, [], take}
use Rattle.ztso_axioms.specs.Performed.{performed_after}
use Rattle.ztso_axioms.proofs.performing.performed.Given as goal

abbrev pub invariant-loop-place : goal.invariant-loop-place
invariant-loop-place l = l.order.items ≡ performed_after l.entries [] (take l.place l.entries)
