use Rattle.std.proofs.Common.{◌≡◌, None, drop}
use Rattle.memory.specs.Writes.{newest_of}
use Rattle.ownership_runs.proofs.sent.newest.Given as goal

abbrev pub invariant-loop-store : goal.invariant-loop-store
invariant-loop-store l = newest_of l.x l.found (drop l.store-index l.stores) ≡ newest_of l.x None l.stores
