use Rattle.std.proofs.Common.{◌≡◌, ◌/◌, ◌%◌, ◌^◌, map, take}
use Rattle.known_values.proofs.comparisons.unscaled.Given as goal

abbrev pub invariant-loop-m : goal.invariant-loop-m
invariant-loop-m l = l.factors.items ≡ map (λ m. m % 2 ^ 32 / l.scale) (take l.m-index l.form.factors)
