use Rattle.std.proofs.Common.{◌≡◌, map, take}
use Rattle.certifying.specs.Harts.{range_of_region}
use Rattle.certifying.proofs.harts.ranges_of_regions.Given as goal

abbrev pub invariant-loop-region : goal.invariant-loop-region
invariant-loop-region l = l.ranges.items ≡ map range_of_region (take l.region-index l.regions)
