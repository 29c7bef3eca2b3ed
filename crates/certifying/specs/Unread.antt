-- The first load of a queue's slots that is shown neither to be of one that its party owns nor of a tag.
use Rattle.std.specs.Prelude.{ℕ, List, [], ◌∷◌, ◌++◌, codes, Option, Some, None, option_map}
use Rattle.std.specs.Fmt.{decimal}
use Rattle.step_machine.specs.History.{OpeningValue}
use Rattle.queue_certificates.specs.Certificates.{QueueCertificate, state_at}
use Rattle.queue_checker.specs.Flaws.{first_below, first_of, first_unowned, first_unowned_rest}
use Rattle.certifying.specs.Descriptions.{instruction_at_pc, instruction_place}
use Rattle.certifying.specs.Queues.{queue_count, slots_at, tagged_number}
use Rattle.certifying.specs.declared.unread.Unread.{Unread}

-- the first such state of a hart, of this queue, which may be one with tags
abbrev pub unowned_by : OpeningValue → QueueCertificate → (i : ℕ) → (t : Option ℕ) → (h : ℕ) → Option ℕ
unowned_by o c i None h = first_unowned o c i h
unowned_by o c i (Some t) h = first_unowned_rest o c t h

abbrev pub unread_by : OpeningValue → QueueCertificate → (i h : ℕ) → Option Unread
unread_by o c i h = option_map (λ n. record { queue = i; hart = h; state = n }) (unowned_by o c i (tagged_number c i) h)

-- of the one party, else of the other
abbrev pub unread_between : OpeningValue → QueueCertificate → (i sender receiver : ℕ) → Option Unread
unread_between o c i sender receiver = first_of (unread_by o c i sender) (unread_by o c i receiver)

-- of a queue's sender, else of its receiver
abbrev pub unread_of : OpeningValue → QueueCertificate → (i : ℕ) → Option Unread
unread_of o c i = unread_between o c i (slots_at c i).sender (slots_at c i).receiver

-- of the first queue that has one
abbrev pub first_unread : OpeningValue → QueueCertificate → Option Unread
first_unread o c = first_below (queue_count c) (unread_of o c)

-- the instruction of a hart's state, which has this number
unfoldable pub state_place : OpeningValue → QueueCertificate → (h n : ℕ) → List ℕ
state_place o c h n = instruction_place o h (state_at c h n).known.pc ++ codes ", state " ++ decimal n

-- the same after its hart's number
unfoldable pub pc_place : OpeningValue → QueueCertificate → (h n : ℕ) → List ℕ
pc_place o c h n = instruction_at_pc o h (state_at c h n).known.pc ++ codes ", state " ++ decimal n

unfoldable pub unread_front : List ℕ
unread_front = codes "kept, but reads not shown: "

unfoldable pub unread_end : (queue : ℕ) → List ℕ
unread_end queue = codes ", of queue " ++ decimal queue ++ 10 ∷ []

abbrev pub unread_line : OpeningValue → QueueCertificate → Unread → List ℕ
unread_line o c unread = unread_front ++ state_place o c unread.hart unread.state ++ unread_end unread.queue
