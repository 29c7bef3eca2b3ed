use Rattle.std.proofs.Common.{◌≡◌, ◌++◌}
use Rattle.std.specs.List.{flat_map}
use Rattle.step_machine.specs.Positions.{changed, pair_words}
use Rattle.step_machine.proofs.machine_state.packing.push_changed.Given as goal

abbrev pub invariant-loop-number : goal.invariant-loop-number
invariant-loop-number l = l.out.items ≡ l.fn.out.items ++ flat_map pair_words (changed l.first l.now l.number)
