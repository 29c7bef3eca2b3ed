use Rattle.std.proofs.Common.{ℕ, ◌≡◌, ◌&&◌, not, take}
use Rattle.std.specs.List.{flat_map}
use Rattle.record_bytes.specs.Ranges.{has_byte, range_has, parts_of}
use Rattle.record_bytes.proofs.ranges.ranges_without.Given as goal

abbrev pub invariant-loop-range : goal.invariant-loop-range
invariant-loop-range l = (l.left.items ≡ flat_map (parts_of l.cut) (take l.range-index l.ranges))
    × ((b : ℕ) → has_byte l.left.items b ≡ (has_byte (take l.range-index l.ranges) b && not (range_has l.cut b)))
