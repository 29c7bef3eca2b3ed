use Rattle.std.proofs.Common.{drop, get_or}
use Rattle.ztso_axioms.specs.Axioms.{is_seen}
use Rattle.ztso_axioms.proofs.Checked.{NoneWrites}
use Rattle.ztso_axioms.proofs.checking.latest_byte.Given as goal

abbrev pub invariant-loop-place : goal.invariant-loop-place
invariant-loop-place l = NoneWrites l.trace.entries l.addr (is_seen l.trace.entries l.order (get_or l.order l.index 0)) (drop l.place l.order)
