use Rattle.std.proofs.Common.{◌≡◌, ◌++◌}
use Rattle.std.specs.String.{string_bytes}
use Rattle.step_machine.specs.Standing.{ForEachHistory}
use Rattle.engine_support.specs.StateText.{words_shown}
use Rattle.engine_support.proofs.state_text.push_words.Given as goal

abbrev pub invariant-loop-place : goal.invariant-loop-place
invariant-loop-place g l = ForEachHistory g.row.B g.row.M l.machine (λ t. string_bytes l.out ≡ string_bytes l.fn.out ++ words_shown t l.place)
