-- A record that was lost: of a position of which it was told, the receiver loads something else than what the sender's hart read there just
-- after it published that position.
use Rattle.std.specs.Prelude.{ℕ, zero, suc, ◌≡◌, ◌≢◌, ◌⊎◌, ◌+◌, ◌-◌, ◌*◌, ◌/◌, ◌<◌, ◌≤◌, ◌==◌, ◌&&◌, not, nat_le, nat_lt, if◌then◌else◌, Bool, true, false}
use Rattle.std.specs.Prelude.{Option, None, Some, List, [], ◌∷◌, ◌++◌, length}
use Rattle.std.specs.Int.{byte_at}
use Rattle.memory.specs.Writes.{write, covers}
use Rattle.step_machine.specs.declared.events.Entry.{Entry}
use Rattle.step_machine.specs.History.{OpeningValue}
use Rattle.step_machine.specs.Access.{Access, load, store, exchange, access_of}
use Rattle.step_machine.specs.Entries.{hart_of, read_byte}
use Rattle.store_buffers.specs.StoreBuffers.{LeavesByteAt}
use Rattle.queue_parties.specs.Parties.{Party, the_sender, the_receiver, QueueCounts}
use Rattle.queue_parties.specs.Positions.{IsInBytes}
use Rattle.slot_queue.specs.Queues.{IsByteOf}
use Rattle.slots_that_tell.specs.Slots.{IsSlotByte}
use Rattle.queue_layouts.specs.declared.AnyQueue.{AnyQueue}
use Rattle.queue_layouts.specs.declared.AnyQueue.TheVariants.{Indexed, Tagged}
use Rattle.queue_layouts.specs.Tagged.{slots_of}
use Rattle.ownership_runs.specs.declared.losses.Loss.{Loss}
use Rattle.ownership_runs.specs.Protocols.{party_for, access_counts, entry_counts, run_counts}
use Rattle.ownership_runs.specs.Keeping.{is_in_bytes, position_from, slots_in}

-- ---- of which position a byte is

-- where the slots begin, and how many bytes one has
abbrev pub slots_from : AnyQueue → ℕ
slots_from (Indexed q) = q.slots
slots_from (Tagged q) = q.slots

abbrev pub slot_width : AnyQueue → ℕ
slot_width (Indexed q) = q.width
slot_width (Tagged q) = q.width

-- in which slot x lies
abbrev pub slot_number : AnyQueue → (x : ℕ) → ℕ
slot_number q x = (x - slots_from q) / slot_width q

-- x is a byte of a slot, also of a tag that lies there: the tag may be the record
abbrev pub is_record_byte : AnyQueue → (x : ℕ) → Bool
is_record_byte q x = is_in_bytes (slots_from q) (slots_in q * slot_width q) x

-- the last of the positions below `known` that lie in slot j of `size`: of the last `size` of them one does, or of fewer at most one
abbrev pub last_of_slot : (size known j : ℕ) → Option ℕ
last_of_slot size known j = if nat_lt (position_from size (known - size) j) known then Some (position_from size (known - size) j) else None

-- the last position whose record has the byte at x and of which the receiver was told
abbrev pub position_told : AnyQueue → QueueCounts → (x : ℕ) → Option ℕ
position_told q c x = if is_record_byte q x then last_of_slot (slots_in q) c.known_published (slot_number q x) else None

-- ---- of each position and byte what the sender's hart read there just after it published the position, unless the receiver has stored
-- there since: as it leaves the byte for the laws of the protocol, which an AMO does that writes the word that it read

abbrev pub SentBytes : Type 0
SentBytes = (k x : ℕ) → Option ℕ

abbrev pub nothing_sent : SentBytes
nothing_sent k x = None

abbrev pub stores_over : Access → (x : ℕ) → Bool
stores_over (store w) x = covers w x
stores_over (exchange a old new) x = not (new == old) && covers (write a 4 new) x
stores_over other x = false

-- after an access of a hart, which is a party or none, that made these counts of those: `reads` is what it reads just after it
abbrev pub sent_by : Option Party → (c after : QueueCounts) → (reads : ℕ → ℕ) → Access → SentBytes → SentBytes
sent_by (Some the_sender) c after reads a s k x = if nat_le c.published k && nat_lt k after.published then Some (reads x) else s k x
sent_by (Some the_receiver) c after reads a s k x = if stores_over a x then None else s k x
sent_by None c after reads a s k x = s k x

-- after an entry, which these come before; and after further entries of a run
abbrev pub sent_after : AnyQueue → OpeningValue → (front : List Entry) → QueueCounts → SentBytes → Entry → SentBytes
sent_after q o front c s e = sent_by (party_for q (hart_of e)) c (entry_counts q c e) (read_byte o (front ++ e ∷ []) (hart_of e)) (access_of e) s

abbrev pub sent_from : AnyQueue → OpeningValue → (front : List Entry) → QueueCounts → SentBytes → List Entry → SentBytes
sent_from q o front c s [] = s
sent_from q o front c s (e ∷ es) = sent_from q o (front ++ e ∷ []) (entry_counts q c e) (sent_after q o front c s e) es

-- ---- the first loss

abbrev pub or_else : Option Loss → Option Loss → Option Loss
or_else None later = later
or_else (Some loss) later = Some loss

-- byte i of a load of the receiver's isn't what was sent, if anything was; it may be of a position; and it is of the one of which it was told
abbrev pub if_differs : (place hart a w v i k : ℕ) → Option ℕ → Option Loss
if_differs place h a w v i k None = None
if_differs place h a w v i k (Some b) = if b == byte_at i v then None else Some (record {
  place = place;
  hart = h;
  addr = a;
  width = w;
  value = v;
  position = k;
  byte = a + i;
  sent = b;
})

abbrev pub if_told : (place hart : ℕ) → SentBytes → (a w v i : ℕ) → Option ℕ → Option Loss
if_told place h s a w v i None = None
if_told place h s a w v i (Some k) = if_differs place h a w v i k (s k (a + i))

-- a load counts as told of: of a tag that is the record, by the same load
abbrev pub counts_told : AnyQueue → (a w v : ℕ) → QueueCounts → QueueCounts
counts_told q a w v c = access_counts q (Some the_receiver) (load a w v) c

abbrev pub byte_lost : AnyQueue → (place hart : ℕ) → QueueCounts → SentBytes → (a w v i : ℕ) → Option Loss
byte_lost q place h c s a w v i = if_told place h s a w v i (position_told q (counts_told q a w v c) (a + i))

-- the first of `number` bytes that is lost
unfoldable pub first_byte : (ℕ → Option Loss) → (number : ℕ) → Option Loss
first_byte lost zero = None
first_byte lost (suc number) = or_else (first_byte lost number) (lost number)

-- of an access of the receiver's that loads, an AMO's old word, with the counts before it
abbrev pub loss_by : AnyQueue → Option Party → (place hart : ℕ) → QueueCounts → SentBytes → Access → Option Loss
loss_by q (Some the_receiver) place h c s (load a w v) = first_byte (byte_lost q place h c s a w v) w
loss_by q (Some the_receiver) place h c s (exchange a old new) = first_byte (byte_lost q place h c s a 4 old) 4
loss_by q t place h c s x = None

abbrev pub loss_at : AnyQueue → (place : ℕ) → QueueCounts → SentBytes → Entry → Option Loss
loss_at q place c s e = loss_by q (party_for q (hart_of e)) place (hart_of e) c s (access_of e)

-- it comes after the entry at this place, if there is one
abbrev pub is_after : (since : Option ℕ) → (place : ℕ) → Bool
is_after None place = true
is_after (Some n) place = nat_lt n place

abbrev pub loss_since : (since : Option ℕ) → AnyQueue → (place : ℕ) → QueueCounts → SentBytes → Entry → Option Loss
loss_since since q place c s e = if is_after since place then loss_at q place c s e else None

abbrev pub loss_from : (since : Option ℕ) → AnyQueue → OpeningValue → (front : List Entry) → QueueCounts → SentBytes → List Entry → Option Loss
loss_from since q o front c s [] = None
loss_from since q o front c s (e ∷ es) = or_else (loss_since since q (length front) c s e)
    (loss_from since q o (front ++ e ∷ []) (entry_counts q c e) (sent_after q o front c s e) es)

abbrev pub first_loss : (since : Option ℕ) → AnyQueue → OpeningValue → (start : QueueCounts) → List Entry → Option Loss
first_loss since q o start es = loss_from since q o [] start nothing_sent es

-- ---- what a loss is

-- x is a byte of the record of position k
abbrev pub IsRecordByte : AnyQueue → (k x : ℕ) → Type 0
IsRecordByte (Indexed q) k x = IsByteOf q k x
IsRecordByte (Tagged q) k x = IsSlotByte (slots_of q) k x

-- the access loads this number of this many bytes from an address on
abbrev pub Loads : Access → (a w v : ℕ) → Type 0
Loads x a w v = (x ≡ load a w v) ⊎ ((w ≡ 4) × ((new : ℕ) × (x ≡ exchange a v new)))

-- the sender read b in the byte at x just after it published position k, and hart h has left the byte since
pub record WasSent (q : AnyQueue) (o : OpeningValue) (start : QueueCounts) (h : ℕ) (es : List Entry) (k x b : ℕ) : Type 0 where
  pub before : List Entry
  pub entry : Entry
  pub since : List Entry
  pub is : es ≡ before ++ entry ∷ since
  pub sends : party_for q (hart_of entry) ≡ Some the_sender
  pub from : (run_counts q start before).published ≤ k
  pub to : k < (run_counts q start (before ++ entry ∷ [])).published
  pub reads : read_byte o (before ++ entry ∷ []) (hart_of entry) x ≡ b
  pub leaves : LeavesByteAt h x since

-- After these entries this one is a load of the receiver's that is the loss: of a byte of the last position of which it was told that has
-- it, and the sender sent another
pub record IsLossAt (q : AnyQueue) (o : OpeningValue) (start : QueueCounts) (front : List Entry) (entry : Entry) (loss : Loss) : Type 0 where
  pub place : loss.place ≡ length front
  pub hart : hart_of entry ≡ loss.hart
  pub receives : party_for q loss.hart ≡ Some the_receiver
  pub loads : Loads (access_of entry) loss.addr loss.width loss.value
  pub byte : IsInBytes loss.addr loss.width loss.byte
  pub of_record : IsRecordByte q loss.position loss.byte
  pub told : loss.position < (counts_told q loss.addr loss.width loss.value (run_counts q start front)).known_published
  pub last : (k : ℕ) → IsRecordByte q k loss.byte
      → k < (counts_told q loss.addr loss.width loss.value (run_counts q start front)).known_published → k ≤ loss.position
  pub sent : WasSent q o start loss.hart front loss.position loss.byte loss.sent
  pub differs : loss.sent ≢ byte_at (loss.byte - loss.addr) loss.value

-- one of these entries is the loss
pub record IsLoss (q : AnyQueue) (o : OpeningValue) (start : QueueCounts) (es : List Entry) (loss : Loss) : Type 0 where
  pub front : List Entry
  pub entry : Entry
  pub back : List Entry
  pub is : es ≡ front ++ entry ∷ back
  pub loss_at : IsLossAt q o start front entry loss

-- it comes after the entry at this place, if there is one, and between them there is none
pub record IsFirstLoss (since : Option ℕ) (q : AnyQueue) (o : OpeningValue) (start : QueueCounts) (es : List Entry) (loss : Loss) : Type 0 where
  pub front : List Entry
  pub entry : Entry
  pub back : List Entry
  pub is : es ≡ front ++ entry ∷ back
  pub loss_at : IsLossAt q o start front entry loss
  pub after : is_after since loss.place ≡ true
  pub earlier : (other : Loss) → is_after since other.place ≡ true → IsLoss q o start front other → ⊥
