use Rattle.std.proofs.Common.{◌≡◌, suc, ◌-◌, length}
use Rattle.certificate_reader.specs.Fields.{reaching}
use Rattle.certificate_reader.proofs.fields.reach_slot.Given as goal

abbrev pub invariant-loop-alloc : goal.invariant-loop-alloc
invariant-loop-alloc l = reaching l.place l.slots.items ≡ reaching l.place l.fn.slots.items

abbrev pub decreases-loop-alloc : goal.decreases-loop-alloc
decreases-loop-alloc l = suc l.place - length l.slots.items
