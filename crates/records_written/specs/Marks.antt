-- When a certificate shows that the sender of a queue writes its records, or that the receiver reads them, and which byte is the first of
-- which it doesn't.
use Rattle.std.specs.Prelude.{ℕ, ◌≡◌, ◌+◌, ◌<◌, ◌++◌, ◌&&◌, nat_le, nat_lt, if◌then◌else◌, Bool, true, false, Some, List, [], ◌∷◌, map, get_or}
use Rattle.step_machine.specs.History.{OpeningValue}
use Rattle.queue_certificates.specs.Forms.{Form, is_same}
use Rattle.queue_certificates.specs.States.{KnownState}
use Rattle.queue_certificates.specs.Steps.{instruction_at, share_at}
use Rattle.queue_certificates.specs.Cases.{Arrow, Cases, leaf, split, with_low, with_high, may_exceed}
use Rattle.queue_certificates.specs.Tags.{are_slots}
use Rattle.queue_certificates.specs.Certificates.{QueueCertificate, part_of, no_hart, queue_at, tagged_at, accepts_loads, accepts_rest}
use Rattle.queue_parties.specs.Parties.{Party, the_sender, the_receiver}
use Rattle.records_written.specs.Parties.{hart_by, effect_in}
use Rattle.records_written.specs.PartyLeaves.{PartyLeaf}
use Rattle.records_written.specs.PartyLeaves.{IsSure, IsFirstUnsure}
use Rattle.records_written.specs.PartyLeaves.{IsOnce, IsFirstTwice}
use Rattle.records_written.specs.declared.finding.Missing.{Missing}
use Rattle.records_written.specs.declared.parties.QueueNumber.{QueueNumber}
use Rattle.records_written.specs.declared.parties.QueueNumber.TheVariants.{Indexed, Tagged}

-- as many positions as a party owns, where that is known
abbrev pub is_all : QueueCertificate → QueueNumber → KnownState → (d : Form) → Bool
is_all c (Indexed i) k d = is_same 0 d (share_at k i).owned
is_all c (Tagged t) k d = false

-- what party p of queue w does at a leaf
abbrev pub leaf_by : QueueCertificate → (w : QueueNumber) → (p : Party) → (code : List ℕ) → KnownState → Form → List Arrow → PartyLeaf
leaf_by c w p code k d arrows =
    record { effect = effect_in c w p k d (instruction_at code k.pc); all = is_all c w k d; targets = map (λ a. a.to) arrows }

-- at each leaf of a state that may be
abbrev pub leaves_in : (KnownState → Form → List Arrow → PartyLeaf) → KnownState → Cases → List PartyLeaf
leaves_in f k (leaf d arrows) = f k d arrows ∷ []
leaves_in f k (split j v low high) = leaves_in f (with_low k j v) low
    ++ (if may_exceed v (get_or k.ranges j (Some 0)) then leaves_in f (with_high k j v) high else [])

-- at each of its states
abbrev pub graph_of : OpeningValue → QueueCertificate → QueueNumber → Party → List (List PartyLeaf)
graph_of o c w p =
    map (λ t. leaves_in (leaf_by c w p (get_or o.harts (hart_by c w p) no_hart).code) t.known t.cases) (part_of c (hart_by c w p)).states

abbrev pub first_of : QueueCertificate → QueueNumber → Party → ℕ
first_of c w p = (part_of c (hart_by c w p)).first

-- each byte of the mask is surely done where a record may be handed on
abbrev pub IsShownDone : OpeningValue → QueueCertificate → QueueNumber → Party → (mask : ℕ → Bool) → Type 0
IsShownDone o c w p mask = IsSure (graph_of o c w p) (first_of c w p) mask

-- this byte isn't, at this state, and is the first
abbrev pub IsFirstMissing : OpeningValue → QueueCertificate → QueueNumber → Party → (mask : ℕ → Bool) → Missing → Type 0
IsFirstMissing o c w p mask m = IsFirstUnsure (graph_of o c w p) (first_of c w p) mask m.state m.byte

-- ---- of the sender: written, before it is published

abbrev pub IsShownWritten : OpeningValue → QueueCertificate → QueueNumber → (mask : ℕ → Bool) → Type 0
IsShownWritten o c w mask = IsShownDone o c w the_sender mask

abbrev pub IsFirstUnwritten : OpeningValue → QueueCertificate → QueueNumber → (mask : ℕ → Bool) → Missing → Type 0
IsFirstUnwritten o c w mask m = IsFirstMissing o c w the_sender mask m

-- ---- of the receiver: read, before it is handed back

abbrev pub IsShownRead : OpeningValue → QueueCertificate → QueueNumber → (mask : ℕ → Bool) → Type 0
IsShownRead o c w mask = IsShownDone o c w the_receiver mask

abbrev pub IsFirstUnread : OpeningValue → QueueCertificate → QueueNumber → (mask : ℕ → Bool) → Missing → Type 0
IsFirstUnread o c w mask m = IsFirstMissing o c w the_receiver mask m

-- ---- and read at most once, in order

abbrev pub IsShownOnce : OpeningValue → QueueCertificate → QueueNumber → (mask : ℕ → Bool) → Type 0
IsShownOnce o c w mask = IsOnce (graph_of o c w the_receiver) mask

abbrev pub IsFirstAgain : OpeningValue → QueueCertificate → QueueNumber → (mask : ℕ → Bool) → Missing → Type 0
IsFirstAgain o c w mask m = IsFirstTwice (graph_of o c w the_receiver) mask m.state m.byte

-- what its receiver loads of slots is shown to be its own, or a tag
abbrev pub OwnsReads : OpeningValue → QueueCertificate → QueueNumber → Type 0
OwnsReads o c (Indexed i) = accepts_loads o c i (queue_at c i).receiver ≡ true
OwnsReads o c (Tagged t) = accepts_rest o c t (tagged_at c t).receiver ≡ true

-- an offset of a slot's byte that is none of a tag's
abbrev pub IsRecordByte : QueueCertificate → QueueNumber → (b : ℕ) → Type 0
IsRecordByte c (Indexed i) b = b < (queue_at c i).width
IsRecordByte c (Tagged t) b = (b < (tagged_at c t).width)
    × ((are_slots (tagged_at c t) && nat_le (tagged_at c t).tag_offset b && nat_lt b ((tagged_at c t).tag_offset + (tagged_at c t).tag_width)) ≡ false)
