-- A run that keeps the protocol of slots that tell, and what its laws speak of.
use Rattle.std.specs.Prelude.{ℕ, ◌≡◌, ◌-◌, List, [], ◌∷◌, ◌++◌}
use Rattle.memory.specs.declared.writes.Write.{Write}
use Rattle.step_machine.specs.declared.events.Entry.{Entry}
use Rattle.step_machine.specs.History.{OpeningValue, history_of}
use Rattle.step_machine.specs.Legal.{Legal}
use Rattle.step_machine.specs.Access.{exchange, access_of}
use Rattle.step_machine.specs.Entries.{hart_of, read}
use Rattle.store_buffers.specs.StoreBuffers.{LeavesByteAt}
use Rattle.queue_parties.specs.Parties.{Party, the_sender, the_receiver, QueueCounts, count, known, moved_through}
use Rattle.queue_parties.specs.Positions.{numbers_from, records_passed}
use Rattle.slots_that_tell.specs.Slots.{Slots, IsSlots, RestsAt, tagged_slot, IsSlotByte, IsTagByte}
use Rattle.slots_that_tell.specs.Telling.{teller_hart, after_entry, moved, KeepsTelling}

-- the entries of a run from where the queue was at rest with these counts: they are legal after those before, and keep the protocol
pub record FollowsTelling (B : ℕ) (q : Slots) (start : QueueCounts) (o : OpeningValue) (before es : List Entry) : Type 0 where
  pub slots : IsSlots q
  pub legal : Legal B (history_of o (before ++ es))
  pub rest : RestsAt q o before start
  pub keeps : KeepsTelling q start es

-- a count after these writes of the party's
abbrev pub moved_on : Slots → (n : ℕ) → List Write → ℕ
moved_on q n ws = moved_through (moved q) n ws

-- this hart writes nothing to the slots but tags, and makes no AMO, to whatever address: so the receiver leaves what it is to take
pub record StoresTagsAlone (q : Slots) (h : ℕ) (es : List Entry) : Type 0 where
  pub rest : (k x : ℕ) → IsSlotByte q k x → (IsTagByte q k x → ⊥) → LeavesByteAt h x es
  pub no_amo : (es1 : List Entry) (e : Entry) (es2 : List Entry) (a old new : ℕ) → es ≡ es1 ++ e ∷ es2 → hart_of e ≡ h → access_of e ≡ exchange a old new → ⊥

-- the record of position k as hart h reads it: the number of the bytes of its slot, with the tag where that lies in it
abbrev pub tagged_record : Slots → OpeningValue → List Entry → (h k : ℕ) → ℕ
tagged_record q o es h k = read o es h (tagged_slot q k) q.width

-- the records that wait from position k on where a run begins, as the receiver's hart reads them there
abbrev pub records_waiting : Slots → OpeningValue → QueueCounts → (before : List Entry) → (k : ℕ) → List ℕ
records_waiting q o start before k = numbers_from (tagged_record q o before q.receiver) k (start.published - k)

-- the sender's record is what its hart reads just after its tag is stored, and the receiver's what its hart reads just before
abbrev pub reading_at : Party → (before : List Entry) → Entry → List Entry
reading_at the_sender before e = before ++ e ∷ []
reading_at the_receiver before e = before

abbrev pub records_by : Slots → Party → OpeningValue → QueueCounts → (before es : List Entry) → List ℕ
records_by q p o c before es = records_passed (after_entry q) (count p) (λ front e k. tagged_record q o (reading_at p front e) (teller_hart q p) k) c before es

-- the records of which the receiver learns, each as its hart reads it just before the load or the AMO that tells it
abbrev pub records_learned : Slots → OpeningValue → QueueCounts → (before es : List Entry) → List ℕ
records_learned q o c before es = records_passed (after_entry q) (known the_receiver) (λ front e k. tagged_record q o front q.receiver k) c before es
