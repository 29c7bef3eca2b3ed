use Rattle.ztso_axioms.proofs.Walks.{Naming}
use Rattle.ztso_axioms.proofs.performing.name_landings.Given as goal

abbrev pub invariant-loop-place : goal.invariant-loop-place
invariant-loop-place l = Naming l.entries l.hart l.place l.count l.fn.landed l.landed
