use Rattle.std.proofs.Common.{◌≡◌}
use Rattle.record_bytes.specs.Naming.{names_byte, offsets_below}
use Rattle.record_bytes.specs.Ranges.{byte_ranges}
use Rattle.record_bytes.proofs.naming.named_ranges.Given as goal

abbrev pub invariant-loop-offset : goal.invariant-loop-offset
invariant-loop-offset l = l.ranges.items ≡ byte_ranges (offsets_below (names_byte l.text) l.offset)
