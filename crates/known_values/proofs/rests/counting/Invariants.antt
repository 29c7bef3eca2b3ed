use Rattle.std.proofs.Common.{◌≡◌}
use Rattle.queue_certificates.specs.Results.{counting}
use Rattle.known_values.specs.Queues.{queue_in}
use Rattle.known_values.proofs.rests.counting.Given as goal

abbrev pub invariant-loop-i : goal.invariant-loop-i
invariant-loop-i l = l.last ≡ counting (queue_in l.queues) l.i l.n
