use Rattle.std.proofs.Common.{◌≡◌, ◌≤◌, take}
use Rattle.ztso_axioms.specs.Axioms.{times_named}
use Rattle.ztso_axioms.proofs.checking.times.Given as goal

abbrev pub invariant-loop-op : goal.invariant-loop-op
invariant-loop-op l = record { few : l.times ≤ l.op-index; counted : l.times ≡ times_named l.place (take l.op-index l.order) }
