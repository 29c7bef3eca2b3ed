-- What is noted of a run as its entries come.
use Rattle.std.specs.Prelude.{ℕ, ◌≡◌, ◌+◌, ◌-◌, ◌*◌, ◌^◌, ◌≤◌, List, [], ◌∷◌, None, Some, Result, Ok, Err}
use Rattle.step_machine.specs.declared.events.Entry.{Entry}
use Rattle.step_machine.specs.declared.events.Event.{Event}
use Rattle.step_machine.specs.declared.events.Outcome.{Outcome}
use Rattle.step_machine.specs.declared.events.Outcome.TheVariants as outcome
use Rattle.step_machine.specs.History.{History}
use Rattle.step_machine.specs.Runs.{Happens}
use Rattle.queue_parties.specs.Parties.{QueueCounts}
use Rattle.queue_layouts.specs.declared.AnyQueue.{AnyQueue}
use Rattle.ownership_runs.specs.declared.violations.Violation.{Violation}
use Rattle.ownership_runs.specs.declared.deciding.RunNotes.{RunNotes}
use Rattle.ownership_runs.specs.Violations.{judged_entry}
use Rattle.ownership_runs.specs.inner.Bounds.{STEP, AreCountsWithin}

-- before the first entry
abbrev pub nothing_noted : (start : QueueCounts) → RunNotes
nothing_noted start = record { found = None; counts = start; place = 0 }

-- after an entry more, of which this was judged
abbrev pub noted_as : RunNotes → Result QueueCounts Violation → RunNotes
noted_as notes (Ok after) = record { found = None; counts = after; place = notes.place + 1 }
noted_as notes (Err violation) = record notes { found = Some violation }

-- after an entry more, of which nothing is noted once there is a violation; after further entries; and after what an event did
abbrev pub noted_more : AnyQueue → RunNotes → Entry → RunNotes
noted_more q notes e = elim (notes.found) [ None ↦ noted_as notes (judged_entry q notes.place notes.counts e) | Some violation ↦ notes ]

abbrev pub noted_all : AnyQueue → RunNotes → List Entry → RunNotes
noted_all q notes [] = notes
noted_all q notes (e ∷ es) = noted_all q (noted_more q notes e) es

abbrev pub noted_after : AnyQueue → RunNotes → Outcome → RunNotes
noted_after q notes (outcome.Did e) = noted_more q notes e
noted_after q notes nothing_done = notes

-- how large what is noted after i events may be
pub record AreNotesWithin (i : ℕ) (notes : RunNotes) : Type 0 where
  pub counts : AreCountsWithin (2 ^ 64 - 1 + STEP * i) (2 ^ 64 - 1 + STEP * i) notes.counts
  pub place : notes.place ≤ i

-- an event made a history of this one, and what was noted of this one became what is noted of the new one
pub record IsEventJudged (B M : ℕ) (q : AnyQueue) (ev : Event) (t : History) (notes : RunNotes) (u : History) (new : RunNotes) : Type 0 where
  pub outcome : Outcome
  pub happens : Happens B M t ev outcome u
  pub noted : new ≡ noted_after q notes outcome
