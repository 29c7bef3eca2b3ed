use Rattle.std.proofs.Common.{◌≡◌, map, take}
use Rattle.step_machine.specs.Positions.{position_of}
use Rattle.litmus.specs.Verdicts.{value_there}
use Rattle.litmus.proofs.judging.values_into.Given as goal

abbrev pub invariant-loop-place : goal.invariant-loop-place
invariant-loop-place g l = l.values.items ≡ map (value_there (position_of l.machine)) (take l.place-index l.places)
