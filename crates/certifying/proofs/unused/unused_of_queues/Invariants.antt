use Rattle.std.proofs.Common.{◌≡◌, length}
use Rattle.queue_checker.specs.Flaws.{first_below}
use Rattle.certifying.specs.Queues.{accesses_at, slots_at}
use Rattle.certifying.specs.Unused.{unused_by}
use Rattle.certifying.proofs.unused.unused_of_queues.Given as goal

abbrev pub invariant-loop-index : goal.invariant-loop-index
invariant-loop-index l = l.first ≡ first_below l.index
    (λ i. unused_by (length l.opening.harts) i (slots_at l.certificate i) (accesses_at l.opening l.certificate i))
