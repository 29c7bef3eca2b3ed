use Rattle.std.proofs.Common.{◌≡◌, ◌≤◌, ◌-◌, length}
use Rattle.ztso_axioms.specs.Performed.{left_below, hart_bound}
use Rattle.ztso_axioms.specs.inner.Landings.{NamesLandings}
use Rattle.ztso_axioms.proofs.performing.landings_of.Given as goal

abbrev pub invariant-loop-hart : goal.invariant-loop-hart
invariant-loop-hart l = record {
  named : NamesLandings l.entries l.from l.landed.items;
  len : length l.landed.items ≡ length l.entries;
  left : l.left.items ≡ left_below l.from l.entries;
  bound : l.from ≤ hart_bound l.entries;
}

abbrev pub decreases-loop-hart : goal.decreases-loop-hart
decreases-loop-hart l = hart_bound l.entries - l.from
