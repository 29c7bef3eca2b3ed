use Rattle.std.proofs.Common.{◌≡◌, take}
use Rattle.ztso_axioms.specs.Performed.{store_places}
use Rattle.ztso_axioms.proofs.performing.stores_of.Given as goal

abbrev pub invariant-loop-place : goal.invariant-loop-place
invariant-loop-place l = l.places.items ≡ store_places l.hart (take l.place l.entries)
