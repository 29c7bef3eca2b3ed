-- What is logged of what was sent, as the entries of a run come.
use Rattle.std.specs.Prelude.{ℕ, ◌≡◌, ◌+◌, ◌-◌, ◌*◌, ◌<◌, ◌≤◌, ◌==◌, ◌&&◌, not, nat_le, nat_lt, if◌then◌else◌, Bool}
use Rattle.std.specs.Prelude.{true, false, Option, None, Some, List, [], ◌∷◌, length}
use Rattle.std.specs.List.{slice_get}
use Rattle.memory.specs.declared.writes.Write.{Write}
use Rattle.memory.specs.Writes.{write}
use Rattle.step_machine.specs.declared.events.Event.{Event}
use Rattle.step_machine.specs.declared.events.Event.TheVariants as event
use Rattle.step_machine.specs.History.{History}
use Rattle.step_machine.specs.Access.{Access, load, store, exchange}
use Rattle.step_machine.specs.Entries.{pending}
use Rattle.queue_parties.specs.Parties.{Party, the_receiver, QueueCounts}
use Rattle.queue_layouts.specs.declared.AnyQueue.{AnyQueue}
use Rattle.queue_layouts.specs.declared.AnyQueue.TheVariants.{Indexed, Tagged}
use Rattle.ownership_runs.specs.declared.sent.ByteLog.{ByteLog}
use Rattle.ownership_runs.specs.declared.sent.SentByte.{SentByte}
use Rattle.ownership_runs.specs.Keeping.{is_in_bytes, slots_in}
use Rattle.ownership_runs.specs.Losses.{SentBytes, slot_width, slots_from}

-- ---- what a log says of position k's byte at x: what was logged last of the byte and of positions from one up to k on

abbrev pub logged_since : (found : Option ℕ) → List SentByte → (k : ℕ) → Option ℕ
logged_since found [] k = found
logged_since found (s ∷ ss) k = logged_since (if nat_le s.from k then s.byte else found) ss k

abbrev pub sent_in : (first : SentByte) → (later : List SentByte) → (k : ℕ) → Option ℕ
sent_in first later k = logged_since (if nat_le first.from k then first.byte else None) later k

abbrev pub last_sent : (first : SentByte) → (later : List SentByte) → SentByte
last_sent first [] = first
last_sent first (s ∷ ss) = last_sent s ss

abbrev pub of_byte : Option ByteLog → (k : ℕ) → Option ℕ
of_byte None k = None
of_byte (Some b) k = sent_in b.first b.later.items k

abbrev pub logged : AnyQueue → List ByteLog → SentBytes
logged q log k x = if nat_le (slots_from q) x then of_byte (slice_get log (x - slots_from q)) k else None

-- of the positions that were published
abbrev pub answered : AnyQueue → QueueCounts → List ByteLog → SentBytes
answered q c log k x = if nat_lt k c.published then logged q log k x else None

-- ---- what is logged

-- x has a place among this many bytes of the slots
abbrev pub has_place : AnyQueue → (places x : ℕ) → Bool
has_place q places x = nat_le (slots_from q) x && nat_lt (x - slots_from q) places

-- it is a byte of memory and of a store to this many bytes, too
abbrev pub is_logged : (M : ℕ) → AnyQueue → (places a width x : ℕ) → Bool
is_logged M q places a width x = is_in_bytes a width x && (nat_lt x (4 * M) && has_place q places x)

-- of a byte, this from a position on
abbrev pub with_byte : (from : ℕ) → (byte : Option ℕ) → (was : ℕ → Option ℕ) → (k : ℕ) → Option ℕ
with_byte from byte was k = if nat_le from k then byte else was k

-- what is read there from a position on; where `over`, of earlier positions nothing is left there
abbrev pub with_read : (from : ℕ) → (over : Bool) → (byte : ℕ) → (was : Option ℕ) → (k : ℕ) → Option ℕ
with_read from over byte was k = if nat_le from k then Some byte else if over then None else was

-- of such bytes
abbrev pub with_changed : (ℕ → Bool) → (over : Bool) → (reads : ℕ → ℕ) → (from : ℕ) → SentBytes → SentBytes
with_changed changed over reads from s k x = if changed x then with_read from over (reads x) (s k x) k else s k x

-- where an access changes what is read, if it changes that, and what an event lands
abbrev pub changed_by : (landing : Write) → Access → Write
changed_by landing (store w) = w
changed_by landing (exchange a old new) = write a 4 new
changed_by landing x = landing

abbrev pub first_of : List Write → Write
first_of [] = write 0 0 0
first_of (w ∷ ws) = w

abbrev pub landing_of : History → Event → Write
landing_of t (event.Act h) = write 0 0 0
landing_of t (event.Land h) = if nat_lt h (length t.opening.harts) then first_of (pending h t.entries) else write 0 0 0

-- it is a store of the receiver's, which no AMO is that writes the word that it read
abbrev pub stores_own : Option Party → Access → Bool
stores_own (Some the_receiver) (store w) = true
stores_own (Some the_receiver) (exchange a old new) = not (new == old)
stores_own t x = false

abbrev pub sender_of : AnyQueue → ℕ
sender_of (Indexed q) = q.sender
sender_of (Tagged q) = q.sender

-- the hart that sends, or of h where there are no more than this many and it isn't among them
abbrev pub reader_of : AnyQueue → (harts h : ℕ) → ℕ
reader_of q harts h = if nat_lt (sender_of q) harts then sender_of q else h

-- after an access of a hart, which is a party or none, before which this many positions were published
abbrev pub logged_by : (M : ℕ) → AnyQueue → (places : ℕ) → Option Party → (from : ℕ) → (reads : ℕ → ℕ) → (landing : Write) → Access → SentBytes → SentBytes
logged_by M q places t from reads landing a s k x =
    let w = changed_by landing a in with_changed (is_logged M q places w.addr w.width) (stores_own t a) reads from s k x

-- a log of all bytes of the slots in memory, in which the positions from this one on have these
pub record IsOpenedLog (M : ℕ) (q : AnyQueue) (holds : ℕ → ℕ) (from : ℕ) (log : List ByteLog) : Type 0 where
  pub places : (x : ℕ) → is_in_bytes (slots_from q) (slots_in q * slot_width q) x ≡ true → x < 4 * M → has_place q (length log) x ≡ true
  pub has : (k x : ℕ) → has_place q (length log) x ≡ true → logged q log k x ≡ (if nat_le from k then Some (holds x) else None)

-- ---- the bytes that an access is of lie below 4 M, and there are at most 4

abbrev pub IsWithin : (M a w : ℕ) → Type 0
IsWithin M a w = (a + w ≤ 4 * M) × (w ≤ 4)

abbrev pub IsAccessWithin : (M : ℕ) → Access → Type 0
IsAccessWithin M (load a w v) = IsWithin M a w
IsAccessWithin M (store w) = IsWithin M w.addr w.width
IsAccessWithin M (exchange a old new) = IsWithin M a 4
IsAccessWithin M other = Unit {0}
