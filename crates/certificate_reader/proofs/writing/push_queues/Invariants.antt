use Rattle.std.proofs.Common.{◌≡◌, ◌++◌, [], take}
use Rattle.std.specs.String.{string_bytes}
use Rattle.std.specs.List.{flat_map}
use Rattle.certificate_reader.specs.Writing.{lines_text, queue_lines}
use Rattle.certificate_reader.proofs.writing.push_queues.Given as goal

abbrev pub invariant-loop-opened : goal.invariant-loop-opened
invariant-loop-opened l = string_bytes l.out ≡ string_bytes l.fn.out ++ lines_text [] (flat_map queue_lines (take l.opened-index l.queues))
