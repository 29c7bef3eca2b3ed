use Rattle.std.proofs.Common.{ℕ, ◌&&◌, ◌||◌, Bool, take}
use Rattle.std.specs.List.{list_any}
use Rattle.record_bytes.specs.Ranges.{has_byte}
use Rattle.records_written.specs.{IsAnswer, ends_at}
use Rattle.records_written.proofs.once.with_leaves.Given as goal

abbrev pub invariant-loop-leaf : goal.invariant-loop-leaf
invariant-loop-leaf l = (p : ℕ → Bool) → IsAnswer l.graph p l.initial.found
    → IsAnswer l.graph (λ b. p b || (has_byte l.mask b && list_any (λ s. ends_at s.effect b) (take l.leaf-index l.leaves))) l.found
