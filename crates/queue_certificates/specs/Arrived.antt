-- A byte of a slot that was handed to the receiver.
use Rattle.std.specs.Prelude.{ℕ, ◌≡◌, ◌⊎◌, ◌<◌, ◌≤◌, List, [], ◌∷◌, ◌++◌}
use Rattle.step_machine.specs.declared.events.Entry.{Entry}
use Rattle.step_machine.specs.History.{OpeningValue}
use Rattle.step_machine.specs.Entries.{read_byte}
use Rattle.store_buffers.specs.StoreBuffers.{LeavesByteAt}
use Rattle.queue_parties.specs.Parties.{QueueCounts}
use Rattle.slots_that_tell.specs.Slots.{Slots, IsSlotByte}
use Rattle.slots_that_tell.specs.Telling.{told_counts}

-- position k waited where the run began, and the receiver reads there what any hart read then, unless it has stored there since
pub record HasWaited (q : Slots) (start : QueueCounts) (o : OpeningValue) (es : List Entry) (k x : ℕ) : Type 0 where
  pub waited : k < start.published
  pub reads : LeavesByteAt q.receiver x es → (h : ℕ) → read_byte o es q.receiver x ≡ read_byte o [] h x

-- the entry at which the sender stored the tag of position k, and that the receiver reads there what the sender's hart read just after,
-- unless it has stored there since
pub record WasSent (q : Slots) (start : QueueCounts) (o : OpeningValue) (es : List Entry) (k x : ℕ) : Type 0 where
  pub before : List Entry
  pub tag : Entry
  pub since : List Entry
  pub is : es ≡ before ++ tag ∷ since
  pub from : (told_counts q start before).published ≤ k
  pub past : k < (told_counts q start (before ++ tag ∷ [])).published
  pub reads : LeavesByteAt q.receiver x since → read_byte o es q.receiver x ≡ read_byte o (before ++ tag ∷ []) q.sender x

-- after these entries the byte at x is of a position that the receiver owns, and it waited or was sent
pub record HasArrived (q : Slots) (start : QueueCounts) (o : OpeningValue) (es : List Entry) (x : ℕ) : Type 0 where
  pub position : ℕ
  pub byte : IsSlotByte q position x
  pub from : (told_counts q start es).taken ≤ position
  pub before : position < (told_counts q start es).known_published
  pub came : HasWaited q start o es position x ⊎ WasSent q start o es position x
