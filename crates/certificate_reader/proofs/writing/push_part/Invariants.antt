use Rattle.std.proofs.Common.{◌≡◌, ◌++◌, [], take}
use Rattle.std.specs.String.{string_bytes}
use Rattle.std.specs.List.{flat_map}
use Rattle.certificate_reader.specs.Writing.{lines_text, state_lines}
use Rattle.certificate_reader.proofs.writing.push_part.Given as goal

abbrev pub invariant-loop-state : goal.invariant-loop-state
invariant-loop-state l = string_bytes l.out ≡ string_bytes l.initial.out ++ lines_text [] (flat_map state_lines (take l.state-index l.part.states))
