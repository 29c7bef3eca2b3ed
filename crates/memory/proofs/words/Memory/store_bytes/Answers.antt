-- A word before the new place is written.
use Rattle.std.proofs.Common.{◌+◌, ◌/◌, arith}
use Rattle.memory.proofs.Written.{written_before}
use Rattle.memory.proofs.words.Memory.store_bytes.Goals as goal

pub invariant_of-self : goal.invariant_of-self
invariant_of-self g c =
    written_before g.row.M c.self.inside.words.items c.self.inside.first.items c.self.inside.untouched
    (c.args.addr / 4 + 1) (c.args.addr / 4) c.over.result c.self.invariant (omega arith) (omega arith) (omega arith)
