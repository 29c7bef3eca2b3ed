-- A byte of a slot that was handed to the receiver.
use Rattle.std.specs.Prelude.{ℕ, ◌≡◌, ◌<◌, ◌≤◌, List, [], ◌∷◌, ◌++◌}
use Rattle.step_machine.specs.declared.events.Entry.{Entry}
use Rattle.step_machine.specs.History.{OpeningValue}
use Rattle.step_machine.specs.Entries.{read_byte}
use Rattle.queue_parties.specs.Parties.{all_at}
use Rattle.slot_queue.specs.Ownership.{counts_after}
use Rattle.slot_queue.specs.Queues.{Queue, IsByteOf}
use Rattle.store_buffers.specs.StoreBuffers.{LeavesByteAt}

-- after these entries of a run from count n: the byte is of a position that the receiver owns, the entry at which the sender moved its
-- head past it, and that the receiver reads what the sender's hart read there just before that, unless it has stored there since
pub record IsDelivered (q : Queue) (n : ℕ) (o : OpeningValue) (es : List Entry) (x : ℕ) : Type 0 where
  pub position : ℕ
  pub byte : IsByteOf q position x
  pub owned : (counts_after q (all_at n) es).taken ≤ position
  pub known : position < (counts_after q (all_at n) es).known_published
  pub before : List Entry
  pub publishes : Entry
  pub since : List Entry
  pub is : es ≡ before ++ publishes ∷ since
  pub from : (counts_after q (all_at n) before).published ≤ position
  pub past : position < (counts_after q (all_at n) (before ++ publishes ∷ [])).published
  pub reads : LeavesByteAt q.receiver x since → read_byte o es q.receiver x ≡ read_byte o before q.sender x
