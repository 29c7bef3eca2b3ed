-- Certificates of no queue, and queues that a text doesn't use. Their protocol is kept by whoever leaves them alone, so nothing would be said.
use Rattle.std.specs.Prelude.{ℕ, ◌==◌, ◌&&◌, not, nat_lt, if◌then◌else◌, Bool, List, [], ◌∷◌, ◌++◌, length, codes, Option, Some, None}
use Rattle.std.specs.List.{list_any}
use Rattle.std.specs.Fmt.{decimal}
use Rattle.step_machine.specs.History.{OpeningValue}
use Rattle.slot_queue.specs.Queues.{Queue}
use Rattle.queue_certificates.specs.Certificates.{QueueCertificate}
use Rattle.queue_checker.specs.Flaws.{first_below}
use Rattle.queue_checker.specs.declared.accesses.SlotAccess.{SlotAccess}
use Rattle.certifying.specs.Queues.{accesses_at, queue_count, slots_at}
use Rattle.certifying.specs.declared.unused.Unused.{Unused}
use Rattle.certifying.specs.declared.unused.Unused.TheVariants.{NoQueue, NoBytes, NoRoom, NoHart, NoStore, NoLoad}

-- hart h stores to its slots, and loads from them
abbrev pub has_store : (h : ℕ) → List SlotAccess → Bool
has_store h accesses = list_any (λ access. (access.hart == h) && access.stores) accesses

abbrev pub has_load : (h : ℕ) → List SlotAccess → Bool
has_load h accesses = list_any (λ access. (access.hart == h) && access.loads) accesses

-- in a text of this number of harts, why a queue with these accesses to its slots isn't used
abbrev pub unused_by : (harts i : ℕ) → Queue → List SlotAccess → Option Unused
unused_by harts i q accesses = if q.width == 0 then Some (NoBytes i) else (if q.capacity == 0 then Some (NoRoom i)
    else (if not (nat_lt q.sender harts && nat_lt q.receiver harts) then Some (NoHart i)
    else (if not (has_store q.sender accesses) then Some (NoStore i q.sender)
    else (if not (has_load q.receiver accesses) then Some (NoLoad i q.receiver) else None))))

-- the first queue that isn't used
abbrev pub first_unused : OpeningValue → QueueCertificate → Option Unused
first_unused o c = if queue_count c == 0 then Some NoQueue
    else first_below (queue_count c) (λ i. unused_by (length o.harts) i (slots_at c i) (accesses_at o c i))

unfoldable pub no_store_line : (i h : ℕ) → List ℕ
no_store_line i h =
    codes "not shown: no instruction of hart " ++ (decimal h ++ (codes " stores to a slot of queue " ++ (decimal i ++ 10 ∷ [])))

unfoldable pub no_load_line : (i h : ℕ) → List ℕ
no_load_line i h =
    codes "not shown: no instruction of hart " ++ (decimal h ++ (codes " loads from a slot of queue " ++ (decimal i ++ 10 ∷ [])))

abbrev pub unused_line : Unused → List ℕ
unused_line NoQueue = codes "not shown: the certificate has no queue" ++ 10 ∷ []
unused_line (NoBytes i) = codes "not shown: queue " ++ decimal i ++ codes " has slots without a byte" ++ 10 ∷ []
unused_line (NoRoom i) = codes "not shown: queue " ++ decimal i ++ codes " has no slot that may be in use" ++ 10 ∷ []
unused_line (NoHart i) = codes "not shown: queue " ++ decimal i ++ codes " has a party that is no hart of the text" ++ 10 ∷ []
unused_line (NoStore i h) = no_store_line i h
unused_line (NoLoad i h) = no_load_line i h
