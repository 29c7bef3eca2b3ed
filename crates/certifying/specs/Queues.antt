-- The queues of a certificate by their numbers: first those with indices, and then those with tags.
use Rattle.std.specs.Prelude.{ℕ, ◌+◌, ◌-◌, ◌&&◌, nat_le, nat_lt, if◌then◌else◌, Bool, false, List, length, Option, Some, None}
use Rattle.step_machine.specs.History.{OpeningValue}
use Rattle.slot_queue.specs.Queues.{Queue}
use Rattle.queue_layouts.specs.declared.AnyQueue.{AnyQueue}
use Rattle.queue_layouts.specs.declared.AnyQueue.TheVariants.{Indexed, Tagged}
use Rattle.queue_certificates.specs.Certificates.{QueueCertificate, queue_at, start_at, tagged_at, tagged_start}
use Rattle.queue_certificates.specs.Tags.{bare, are_slots}
use Rattle.record_bytes.specs.declared.ranges.ByteRange.{ByteRange}
use Rattle.records_written.specs.declared.parties.QueueNumber.{QueueNumber}
use Rattle.records_written.specs.declared.parties.QueueNumber.TheVariants as number
use Rattle.queue_checker.specs.Accesses.{slot_accesses, tagged_accesses}
use Rattle.queue_checker.specs.declared.accesses.SlotAccess.{SlotAccess}

-- how many there are
abbrev pub queue_count : QueueCertificate → ℕ
queue_count c = length c.queues + length c.tagged

-- which one it is of those with tags, if it is one
abbrev pub tagged_number : QueueCertificate → (i : ℕ) → Option ℕ
tagged_number c i = if nat_lt i (length c.queues) then None else Some (i - length c.queues)

-- its number among those of its kind
abbrev pub number_by : (i : ℕ) → (t : Option ℕ) → QueueNumber
number_by i None = number.Indexed i
number_by i (Some t) = number.Tagged t

abbrev pub number_in : QueueCertificate → (i : ℕ) → QueueNumber
number_in c i = number_by i (tagged_number c i)

-- b is the offset of a byte of its tag, if it has one in each slot
abbrev pub is_tag_byte_by : QueueCertificate → (t : Option ℕ) → (b : ℕ) → Bool
is_tag_byte_by c None b = false
is_tag_byte_by c (Some t) b =
    are_slots (tagged_at c t) && nat_le (tagged_at c t).tag_offset b && nat_lt b ((tagged_at c t).tag_offset + (tagged_at c t).tag_width)

abbrev pub is_tag_byte : QueueCertificate → (i b : ℕ) → Bool
is_tag_byte c i b = is_tag_byte_by c (tagged_number c i) b

-- these bytes as a range, without a byte where it has none
abbrev pub tag_range_by : QueueCertificate → (t : Option ℕ) → ByteRange
tag_range_by c None = record { first = 1; last = 0 }
tag_range_by c (Some t) = if are_slots (tagged_at c t) && nat_lt 0 ((tagged_at c t).tag_offset + (tagged_at c t).tag_width)
    then record { first = (tagged_at c t).tag_offset; last = (tagged_at c t).tag_offset + (tagged_at c t).tag_width - 1 }
    else record { first = 1; last = 0 }

abbrev pub tag_range : QueueCertificate → (i : ℕ) → ByteRange
tag_range c i = tag_range_by c (tagged_number c i)

-- the queue itself, and the count with which it opens
abbrev pub queue_by : QueueCertificate → (i : ℕ) → (t : Option ℕ) → AnyQueue
queue_by c i None = Indexed (queue_at c i)
queue_by c i (Some t) = Tagged (tagged_at c t)

abbrev pub any_queue : QueueCertificate → (i : ℕ) → AnyQueue
any_queue c i = queue_by c i (tagged_number c i)

abbrev pub start_by : QueueCertificate → (i : ℕ) → (t : Option ℕ) → ℕ
start_by c i None = start_at c i
start_by c i (Some t) = tagged_start c t

abbrev pub any_start : QueueCertificate → (i : ℕ) → ℕ
any_start c i = start_by c i (tagged_number c i)

-- its harts and its slots
abbrev pub slots_by : QueueCertificate → (i : ℕ) → (t : Option ℕ) → Queue
slots_by c i None = queue_at c i
slots_by c i (Some t) = bare (tagged_at c t)

abbrev pub slots_at : QueueCertificate → (i : ℕ) → Queue
slots_at c i = slots_by c i (tagged_number c i)

-- the instructions that may access its slots
abbrev pub accesses_by : OpeningValue → QueueCertificate → (i : ℕ) → (t : Option ℕ) → List SlotAccess
accesses_by o c i None = slot_accesses o c i
accesses_by o c i (Some t) = tagged_accesses o c t

abbrev pub accesses_at : OpeningValue → QueueCertificate → (i : ℕ) → List SlotAccess
accesses_at o c i = accesses_by o c i (tagged_number c i)
