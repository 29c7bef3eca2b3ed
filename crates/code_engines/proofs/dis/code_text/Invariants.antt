use Rattle.std.proofs.Common.{◌≡◌, take}
use Rattle.std.specs.List.{flat_map}
use Rattle.std.specs.String.{string_bytes}
use Rattle.code_engines.specs.Dis.{instr_line}
use Rattle.code_engines.proofs.dis.code_text.Given as goal

abbrev pub invariant-loop-word : goal.invariant-loop-word
invariant-loop-word l = string_bytes l.out ≡ flat_map instr_line (take l.word-index l.code)
