use Rattle.std.proofs.Common.{◌≡◌, drop}
use Rattle.memory.specs.Writes.{overlaid}
use Rattle.memory.proofs.store_buffer.StoreBuffer.over.Given as goal

abbrev pub invariant-loop-store : goal.invariant-loop-store
invariant-loop-store g l = overlaid l.addr l.found (drop l.store-index l.self) ≡ overlaid l.addr l.word l.self
