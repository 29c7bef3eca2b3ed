use Rattle.std.proofs.Common.{◌≡◌, ◌++◌, length}
use Rattle.hart_safety.specs.Regions.{with_region}
use Rattle.hart_safety.proofs.regions.with_region.Given as goal

abbrev pub invariant-loop-regions : goal.invariant-loop-regions
invariant-loop-regions l = l.out.items ++ with_region l.region l.regions ≡ with_region l.fn.region l.fn.regions

abbrev pub decreases-loop-regions : goal.decreases-loop-regions
decreases-loop-regions l = length l.regions
