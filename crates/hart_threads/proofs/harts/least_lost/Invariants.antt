use Rattle.std.proofs.Common.{◌≡◌, true, take}
use Rattle.hart_threads.specs.inner.{Found}
use Rattle.hart_threads.specs.declared.turns.Ending.TheVariants as ending
use Rattle.hart_threads.proofs.harts.least_lost.Given as goal

abbrev pub invariant-loop-one : goal.invariant-loop-one
invariant-loop-one g l = Found (λ r. r.0.seat.hart) (λ r. r.0.seat.acts ≡ true → r.1 ≡ ending.NoHart → ⊥)
    (λ r. (r.0.seat.acts ≡ true) × (r.1 ≡ ending.NoHart)) (take l.one-index l.back) l.least
