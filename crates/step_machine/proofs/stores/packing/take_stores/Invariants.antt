use Rattle.std.proofs.Common.{◌≡◌, ◌-◌}
use Rattle.step_machine.specs.Positions.{unpacked_stores}
use Rattle.step_machine.proofs.stores.packing.take_stores.Given as goal

abbrev pub invariant-loop : goal.invariant-loop
invariant-loop g l = unpacked_stores g.row.B g.row.M l.count l.fn.buffer l.words ≡ unpacked_stores g.row.B g.row.M (l.count - l.counter) l.buffer l.rest
