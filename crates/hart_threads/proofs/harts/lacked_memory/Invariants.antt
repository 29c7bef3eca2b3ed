use Rattle.std.proofs.Common.{◌≡◌, take}
use Rattle.std.specs.Prelude.{All}
use Rattle.hart_threads.specs.declared.turns.Ending.TheVariants as ending
use Rattle.hart_threads.proofs.harts.lacked_memory.Given as goal

abbrev pub invariant-loop-one : goal.invariant-loop-one
invariant-loop-one g l = All (λ r. r.1 ≡ ending.NoMemory → ⊥) (take l.one-index l.back)
