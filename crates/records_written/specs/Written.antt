-- Records that their sender wrote: bytes of a slot that it stored, whatever was there, since the record before in the same slot was published.
use Rattle.std.specs.Prelude.{ℕ, ◌≡◌, ◌+◌, ◌<◌, true, List, ◌∷◌, ◌++◌}
use Rattle.step_machine.specs.declared.events.Entry.{Entry}
use Rattle.step_machine.specs.Access.{access_of}
use Rattle.step_machine.specs.History.{OpeningValue}
use Rattle.step_machine.specs.Entries.{hart_of}
use Rattle.queue_certificates.specs.Effects.{WritesByte}
use Rattle.queue_certificates.specs.Certificates.{QueueCertificate}
use Rattle.queue_parties.specs.Parties.{the_sender}
use Rattle.records_written.specs.Parties.{counts_for, next_instruction, sender_in, size_in, published_after}
use Rattle.records_written.specs.declared.parties.QueueNumber.{QueueNumber}

-- In these entries of a run the sender of queue w wrote the byte at x after it had published position k - size, whose slot is that of
-- position k; by a store or by a swap. Where there is no such position, at any time
pub record IsWritten (M : ℕ) (o : OpeningValue) (c : QueueCertificate) (w : QueueNumber) (es : List Entry) (k x : ℕ) : Type 0 where
  pub before : List Entry
  pub writes : Entry
  pub since : List Entry
  pub is : es ≡ before ++ writes ∷ since
  pub sender : hart_of writes ≡ sender_in c w
  pub byte : WritesByte (access_of writes) x
  pub counts : counts_for the_sender (next_instruction M o before (hart_of writes)) ≡ true
  pub after : k < published_after c w before + size_in c w
