use Rattle.std.proofs.Common.{◌≡◌, ◌++◌, [], map, take}
use Rattle.std.specs.String.{string_bytes}
use Rattle.certificate_reader.specs.Writing.{lines_text, tagged_line}
use Rattle.certificate_reader.proofs.writing.push_all_tagged.Given as goal

abbrev pub invariant-loop-opened : goal.invariant-loop-opened
invariant-loop-opened l = string_bytes l.out ≡ string_bytes l.fn.out ++ lines_text [] (map tagged_line (take l.opened-index l.tagged))
