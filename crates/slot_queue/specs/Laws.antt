-- A run that keeps the protocol of ownership, and what its laws speak of.
use Rattle.std.specs.Prelude.{ℕ, ◌-◌, List, [], ◌∷◌, ◌++◌}
use Rattle.memory.specs.declared.writes.Write.{Write}
use Rattle.step_machine.specs.declared.events.Entry.{Entry}
use Rattle.step_machine.specs.History.{OpeningValue, history_of}
use Rattle.step_machine.specs.Legal.{Legal}
use Rattle.step_machine.specs.Entries.{read}
use Rattle.store_buffers.specs.StoreBuffers.{LeavesByteAt}
use Rattle.queue_parties.specs.Parties.{Party, the_receiver, QueueCounts, count, known, moved_through}
use Rattle.queue_parties.specs.Positions.{numbers_from, records_passed}
use Rattle.slot_queue.specs.Queues.{Queue, IsQueue, IsAtRest, slot_of, IsByteOf}
use Rattle.slot_queue.specs.Ownership.{hart, counts_next, moved, KeepsOwnership}

-- the entries of a run from where the queue was at rest with these counts: they are legal after those before, and keep the protocol
pub record FollowsOwnership (B : ℕ) (q : Queue) (start : QueueCounts) (o : OpeningValue) (before es : List Entry) : Type 0 where
  pub queue : IsQueue q
  pub legal : Legal B (history_of o (before ++ es))
  pub rest : IsAtRest q o before start
  pub keeps : KeepsOwnership q start es

-- a count after these writes of the party's
abbrev pub moved_on : Queue → Party → (n : ℕ) → List Write → ℕ
moved_on q p n ws = moved_through (moved q p) n ws

-- this hart writes nothing over any byte of the slots
abbrev pub LeavesSlotsAt : Queue → (h : ℕ) → List Entry → Type 0
LeavesSlotsAt q h es = (k x : ℕ) → IsByteOf q k x → LeavesByteAt h x es

-- the record of position k as hart h reads it: the number of the bytes of its slot
abbrev pub slot_record : Queue → OpeningValue → List Entry → (h k : ℕ) → ℕ
slot_record q o es h k = read o es h (slot_of q k) q.width

-- The records past which a party moves its count, each as a load of its hart just before would read it: those that the sender publishes, and
-- those that the receiver takes. Only conclusions cite these three: proofs/ByHand.antt has them of a run, by hand
abbrev pub records_by : Queue → Party → OpeningValue → QueueCounts → (before es : List Entry) → List ℕ
records_by q p o c before es = records_passed (counts_next q) (count p) (λ front e k. slot_record q o front (hart q p) k) c before es

-- the records of which the receiver learns, each as its hart reads it just after the load by which it learns of it
abbrev pub records_learned : Queue → OpeningValue → QueueCounts → (before es : List Entry) → List ℕ
records_learned q o c before es = records_passed (counts_next q) (known the_receiver) (λ front e k. slot_record q o (front ++ e ∷ []) q.receiver k) c before es

-- the records that are published from position k on where the run begins
abbrev pub records_waiting : Queue → OpeningValue → QueueCounts → (before : List Entry) → (k : ℕ) → List ℕ
records_waiting q o c before k = numbers_from (slot_record q o before q.sender) k (c.published - k)
