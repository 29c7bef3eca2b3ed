use Rattle.std.proofs.Common.{◌≡◌, ◌++◌, drop}
use Rattle.std.specs.String.{string_bytes}
use Rattle.engine_support.specs.OpeningTexts.{numbered, register_line, registers_text}
use Rattle.view_engines.proofs.openings.push_registers.Given as goal

abbrev pub invariant-loop-number : goal.invariant-loop-number
invariant-loop-number l =
    string_bytes l.out ++ numbered (register_line l.hart) l.number (drop l.number l.registers) ≡ string_bytes l.fn.out
    ++ registers_text l.hart l.registers
