use Rattle.std.proofs.Common.{◌≡◌, ◌++◌}
use Rattle.std.specs.String.{string_bytes}
use Rattle.step_machine.specs.Standing.{ForEachHistory}
use Rattle.engine_support.specs.StateText.{harts_shown}
use Rattle.engine_support.proofs.state_text.push_harts.Given as goal

abbrev pub invariant-loop-hart : goal.invariant-loop-hart
invariant-loop-hart g l = ForEachHistory g.row.B g.row.M l.machine (λ t. string_bytes l.out ≡ string_bytes l.fn.out ++ harts_shown g.row.M t l.hart)
