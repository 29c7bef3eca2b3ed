-- Queues by their numbers in a list.
use Rattle.std.specs.Prelude.{ℕ, List, get_or}
use Rattle.slot_queue.specs.Queues.{Queue}
use Rattle.queue_certificates.specs.Certificates as certificates
use Rattle.queue_certificates.specs.Certificates.{OpenedQueue}

-- what `queue_at` is of a certificate with these queues
abbrev pub queue_in : List OpenedQueue → (i : ℕ) → Queue
queue_in queues i = (get_or queues i certificates.no_queue).queue
