use Rattle.std.proofs.Common.{◌≡◌, ◌+◌, ◌-◌, ◌≤◌, ◌++◌, replicate, vec_len, vec_capacity}
use Rattle.litmus.specs.declared.symbols.Step.TheVariants.{Not}
use Rattle.litmus.proofs.builder.add_negations.Given as goal

abbrev pub invariant-loop : goal.invariant-loop
invariant-loop l = (l.steps.items ≡ l.initial.steps.items ++ replicate l.counter Not) × (vec_len l.steps + (l.negations - l.counter) ≤ vec_capacity l.steps)
