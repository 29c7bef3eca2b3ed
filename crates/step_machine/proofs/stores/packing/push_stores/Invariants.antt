use Rattle.std.proofs.Common.{◌≡◌, ◌++◌, take}
use Rattle.std.specs.List.{flat_map}
use Rattle.step_machine.specs.Positions.{store_words}
use Rattle.step_machine.proofs.stores.packing.push_stores.Given as goal

abbrev pub invariant-loop-store : goal.invariant-loop-store
invariant-loop-store l = l.out.items ≡ l.fn.out.items ++ flat_map store_words (take l.store-index l.stores)
