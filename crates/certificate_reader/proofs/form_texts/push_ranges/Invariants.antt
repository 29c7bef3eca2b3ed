use Rattle.std.proofs.Common.{◌≡◌, ◌++◌, map, take}
use Rattle.std.specs.String.{string_bytes}
use Rattle.certificate_reader.specs.Writing.{spaced, range_text}
use Rattle.certificate_reader.proofs.form_texts.push_ranges.Given as goal

abbrev pub invariant-loop-range : goal.invariant-loop-range
invariant-loop-range l = string_bytes l.out ≡ string_bytes l.fn.out ++ spaced (map range_text (take l.range-index l.ranges))
