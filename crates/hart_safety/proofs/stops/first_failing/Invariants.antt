use Rattle.std.proofs.Common.{◌≡◌}
use Rattle.queue_certificates.specs.{state_at, each_leaf}
use Rattle.queue_checker.specs.Flaws.{first_below, unless}
use Rattle.hart_safety.proofs.stops.first_failing.Given as goal

abbrev pub invariant-loop-n : goal.invariant-loop-n
invariant-loop-n g l = l.first ≡ first_below l.n
    (λ n. unless (each_leaf (g.C.LeafCheck.holds l.check) (state_at l.certificate l.hart n).known (state_at l.certificate l.hart n).cases) n)
