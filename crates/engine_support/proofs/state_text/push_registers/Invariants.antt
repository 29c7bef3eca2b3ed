use Rattle.std.proofs.Common.{◌≡◌, ◌++◌}
use Rattle.std.specs.String.{string_bytes}
use Rattle.step_machine.specs.Names.{state_of, ForEachHistory}
use Rattle.engine_support.specs.StateText.{registers_shown}
use Rattle.engine_support.proofs.state_text.push_registers.Given as goal

abbrev pub invariant-loop-number : goal.invariant-loop-number
invariant-loop-number g l = ForEachHistory g.row.B g.row.M l.machine
    (λ t. string_bytes l.out ≡ string_bytes l.fn.out ++ registers_shown (state_of g.row.M t l.hart) l.number)
