-- Records that their receiver read: bytes of a slot that it loaded into a register while it owned the slot's position.
use Rattle.std.specs.Prelude.{ℕ, ◌≡◌, ◌+◌, ◌<◌, ◌≤◌, Bool, true, List, ◌∷◌, ◌++◌}
use Rattle.step_machine.specs.declared.events.Entry.{Entry}
use Rattle.step_machine.specs.Access.{access_of}
use Rattle.step_machine.specs.History.{OpeningValue}
use Rattle.step_machine.specs.Entries.{hart_of}
use Rattle.certified_runs.specs.Views.{LoadsByte}
use Rattle.queue_certificates.specs.Certificates.{QueueCertificate}
use Rattle.queue_parties.specs.Parties.{the_receiver}
use Rattle.records_written.specs.Parties.{counts_for, next_instruction, receiver_in, slot_in, taken_after, owned_end_after}
use Rattle.records_written.specs.declared.parties.QueueNumber.{QueueNumber}

module _ (M : ℕ) (o : OpeningValue) (c : QueueCertificate) (w : QueueNumber) where
  -- By entry e after these of a run the receiver of queue w reads the byte at x, not into x0, while it owns position k, as far as it has learned
  pub record IsReadBy (before : List Entry) (e : Entry) (k x : ℕ) : Type 0 where
    pub receiver : hart_of e ≡ receiver_in c w
    pub byte : LoadsByte (access_of e) x
    pub counts : counts_for the_receiver (next_instruction M o before (hart_of e)) ≡ true
    pub from : taken_after c w before ≤ k
    pub owned : k < owned_end_after c w before

  -- in these entries it did
  pub record IsRead (es : List Entry) (k x : ℕ) : Type 0 where
    pub before : List Entry
    pub reads : Entry
    pub since : List Entry
    pub is : es ≡ before ++ reads ∷ since
    pub by : IsReadBy before reads k x

  -- in these it read neither byte b of position k, nor any of these bytes of a later one
  abbrev pub IsFresh : (mask : ℕ → Bool) → (es : List Entry) → (k b : ℕ) → Type 0
  IsFresh mask es k b = (IsRead es k (slot_in c w k + b) → ⊥) × ((j a : ℕ) → k < j → mask a ≡ true → IsRead es j (slot_in c w j + a) → ⊥)
