use Rattle.std.proofs.Common.{◌≡◌, take}
use Rattle.memory.proofs.store_buffer.StoreBuffer.restore.Given as goal

abbrev pub invariant-loop-store : goal.invariant-loop-store
invariant-loop-store g l = l.self-inside.stores.items ≡ take l.store-index l.store-items
