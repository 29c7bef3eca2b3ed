use Rattle.std.proofs.Common.{take}
use Rattle.hart_threads.specs.{Belongs, Found}
use Rattle.hart_threads.proofs.diary.least_misfit.Given as goal

abbrev pub invariant-loop-seat : goal.invariant-loop-seat
invariant-loop-seat g l = Found (λ s. s.hart) (Belongs g.row.M l.opening l.memory)
    (λ s. Belongs g.row.M l.opening l.memory s → ⊥) (take l.seat-index l.seats) l.least
