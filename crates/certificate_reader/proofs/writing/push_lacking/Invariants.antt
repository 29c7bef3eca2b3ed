use Rattle.std.proofs.Common.{◌≡◌, ◌++◌, [], map, take}
use Rattle.std.specs.String.{string_bytes}
use Rattle.certificate_reader.specs.Writing.{lines_text, lacks_line}
use Rattle.certificate_reader.proofs.writing.push_lacking.Given as goal

abbrev pub invariant-loop-lacks : goal.invariant-loop-lacks
invariant-loop-lacks l = string_bytes l.out ≡ string_bytes l.fn.out ++ lines_text [] (map lacks_line (take l.lacks-index l.lacking))
