use Rattle.std.proofs.Common.{◌≡◌, ◌++◌, [], take}
use Rattle.std.specs.String.{string_bytes}
use Rattle.std.specs.List.{flat_map}
use Rattle.certificate_reader.specs.Writing.{lines_text, part_lines}
use Rattle.certificate_reader.proofs.writing.push_parts.Given as goal

abbrev pub invariant-loop-part : goal.invariant-loop-part
invariant-loop-part l = string_bytes l.out ≡ string_bytes l.fn.out ++ lines_text [] (flat_map part_lines (take l.part-index l.parts))
