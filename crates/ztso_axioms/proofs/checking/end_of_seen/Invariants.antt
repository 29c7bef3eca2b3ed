use Rattle.std.proofs.Common.{◌≡◌, [], drop, get_or}
use Rattle.std.specs.Prelude.{filter}
use Rattle.ztso_axioms.specs.Axioms.{is_seen}
use Rattle.ztso_axioms.proofs.checking.end_of_seen.Given as goal

abbrev pub invariant-loop-place : goal.invariant-loop-place
invariant-loop-place l = filter (is_seen l.entries l.order (get_or l.order l.index 0)) (drop l.place l.order) ≡ []
