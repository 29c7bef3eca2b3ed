use Rattle.std.proofs.Common.{◌≡◌, None, drop}
use Rattle.memory.specs.Writes.{newest_of}
use Rattle.memory.proofs.store_buffer.StoreBuffer.newest.Given as goal

abbrev pub invariant-loop-store : goal.invariant-loop-store
invariant-loop-store g l = newest_of l.addr l.found (drop l.store-index l.self) ≡ newest_of l.addr None l.self
