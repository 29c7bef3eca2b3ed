use Rattle.std.proofs.Common.{◌≡◌, get_or}
use Rattle.memory.specs.Writes.{byte_of}
use Rattle.queue_certificates.specs.{number_seen, any, own_at, all_below, is_value}
use Rattle.known_values.specs.Queues.{queue_in}
use Rattle.queue_checker.proofs.opening.are_own_words.Given as goal

abbrev pub invariant-loop-j : goal.invariant-loop-j
invariant-loop-j l = l.all ≡ all_below l.j (λ j. is_value (queue_in l.queues) l.numbers (get_or l.values j any)
    (number_seen (byte_of l.words) (own_at l.own j).at (own_at l.own j).width))
