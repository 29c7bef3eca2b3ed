use Rattle.std.proofs.Common.{◌≡◌, ◌%◌, map, take}
use Rattle.known_values.proofs.ranges.reduced.Given as goal

abbrev pub invariant-loop-m : goal.invariant-loop-m
invariant-loop-m l = l.factors.items ≡ map (λ m. m % l.modulus) (take l.m-index l.form.factors)
