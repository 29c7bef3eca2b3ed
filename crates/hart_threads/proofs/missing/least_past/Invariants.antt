use Rattle.std.proofs.Common.{◌<◌, ◌≤◌, take}
use Rattle.hart_threads.specs.inner.{Found}
use Rattle.hart_threads.proofs.missing.least_past.Given as goal

abbrev pub invariant-loop-seat : goal.invariant-loop-seat
invariant-loop-seat g l = Found (λ s. s.hart) (λ s. s.hart < l.harts) (λ s. l.harts ≤ s.hart) (take l.seat-index l.seats) l.least
