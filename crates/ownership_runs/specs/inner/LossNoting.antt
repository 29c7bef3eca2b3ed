-- What is noted of what a run loses, as its entries come.
use Rattle.std.specs.Prelude.{ℕ, ◌≡◌, ◌+◌, ◌-◌, ◌*◌, ◌^◌, ◌<◌, ◌≤◌, Option, None, Some, true, false, List, [], ◌∷◌, ◌++◌, length}
use Rattle.step_machine.specs.declared.events.Entry.{Entry}
use Rattle.step_machine.specs.declared.events.Event.{Event}
use Rattle.step_machine.specs.declared.events.Outcome.{Outcome}
use Rattle.step_machine.specs.History.{OpeningValue, History}
use Rattle.step_machine.specs.Runs.{Happens}
use Rattle.step_machine.specs.Access.{access_of}
use Rattle.step_machine.specs.Entries.{read_byte}
use Rattle.memory.specs.declared.writes.Write.{Write}
use Rattle.memory.specs.Writes.{covers}
use Rattle.queue_parties.specs.Parties.{QueueCounts}
use Rattle.queue_layouts.specs.declared.AnyQueue.{AnyQueue}
use Rattle.ownership_runs.specs.declared.sent.ByteLog.{ByteLog}
use Rattle.ownership_runs.specs.declared.judging_losses.LossNotes.{LossNotes}
use Rattle.ownership_runs.specs.Protocols.{run_counts}
use Rattle.ownership_runs.specs.Keeping.{is_in_bytes, slots_in}
use Rattle.ownership_runs.specs.Losses.{nothing_sent, sent_from, first_loss, slots_from, slot_width}
use Rattle.ownership_runs.specs.inner.Bounds.{STEP, AreCountsWithin}
use Rattle.ownership_runs.specs.inner.Logging.{logged, has_place, sender_of, changed_by}

-- A log has a place for each byte of the slots in memory, has what was sent in these entries of the positions that were published, and of later ones
-- what the sender's hart reads
pub record IsLogOf (M : ℕ) (q : AnyQueue) (o : OpeningValue) (start : QueueCounts) (es : List Entry) (log : List ByteLog) : Type 0 where
  pub places : (x : ℕ) → is_in_bytes (slots_from q) (slots_in q * slot_width q) x ≡ true → x < 4 * M → has_place q (length log) x ≡ true
  pub sent : (k x : ℕ) → has_place q (length log) x ≡ true → x < 4 * M → k < (run_counts q start es).published
      → logged q log k x ≡ sent_from q o [] start nothing_sent es k x
  pub seen : sender_of q < length o.harts → (k x : ℕ) → has_place q (length log) x ≡ true → x < 4 * M → (run_counts q start es).published ≤ k
      → logged q log k x ≡ Some (read_byte o es (sender_of q) x)

-- after these entries one changes what the sender's hart reads nowhere else, where this is the store that it lands, if it lands one
abbrev pub IsSeenIn : AnyQueue → OpeningValue → (es : List Entry) → (landing : Write) → Entry → Type 0
IsSeenIn q o es landing e = (x : ℕ) → covers (changed_by landing (access_of e)) x ≡ false
    → read_byte o (es ++ e ∷ []) (sender_of q) x ≡ read_byte o es (sender_of q) x

-- these are the notes after these entries, and this the log
pub record AreLossNotes (since : Option ℕ) (M : ℕ) (q : AnyQueue) (o : OpeningValue) (start : QueueCounts)
    (es : List Entry) (log : List ByteLog) (notes : LossNotes)
    : Type 0 where
  pub found : notes.found ≡ first_loss since q o start es
  pub counts : notes.found ≡ None → notes.counts ≡ run_counts q start es
  pub place : notes.found ≡ None → notes.place ≡ length es
  pub sent : notes.found ≡ None → IsLogOf M q o start es log

-- how large what is noted after i events may be
pub record AreLossNotesWithin (i : ℕ) (notes : LossNotes) : Type 0 where
  pub counts : AreCountsWithin (2 ^ 64 - 1 + STEP * i) (2 ^ 64 - 1 + STEP * i) notes.counts
  pub place : notes.place ≤ i

-- an event made a history of this one
abbrev pub HasHappened : (B M : ℕ) → Event → (t u : History) → Type 0
HasHappened B M ev t u = (o : Outcome) × Happens B M t ev o u
