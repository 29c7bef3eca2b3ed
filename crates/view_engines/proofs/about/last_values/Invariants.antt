use Rattle.std.proofs.Common.{◌≡◌, map, take}
use Rattle.view_engines.specs.About.{last_value}
use Rattle.view_engines.proofs.about.last_values.Given as goal

abbrev pub invariant-loop-place : goal.invariant-loop-place
invariant-loop-place g l = l.values.items ≡ map (last_value g.row.M l.test.names l.machine.history) (take l.place-index l.place-items)
