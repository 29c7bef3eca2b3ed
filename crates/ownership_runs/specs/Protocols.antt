-- Queues of either kind: their parties, what accesses make of the counts, what a party owns, and the protocol that runs keep.
use Rattle.std.specs.Prelude.{ℕ, ◌≤◌, Option, List}
use Rattle.step_machine.specs.declared.events.Entry.{Entry}
use Rattle.step_machine.specs.History.{OpeningValue}
use Rattle.step_machine.specs.Access.{Access, access_of}
use Rattle.step_machine.specs.Entries.{hart_of}
use Rattle.queue_parties.specs.Parties.{Party, QueueCounts, counts_from}
use Rattle.slot_queue.specs.Queues.{IsQueue, IsAtRest}
use Rattle.slot_queue.specs.Ownership.{party_of, end, after_access, KeepsEntry, KeepsOwnership}
use Rattle.slot_queue.specs.Laws.{FollowsOwnership}
use Rattle.slots_that_tell.specs.Slots.{IsSlots, RestsAt}
use Rattle.slots_that_tell.specs.Telling.{teller_of, owned_end, told_access, KeepsEntry as TellsEntry, KeepsTelling}
use Rattle.slots_that_tell.specs.Laws.{FollowsTelling}
use Rattle.queue_layouts.specs.declared.AnyQueue.{AnyQueue}
use Rattle.queue_layouts.specs.declared.AnyQueue.TheVariants.{Indexed, Tagged}
use Rattle.queue_layouts.specs.Tagged.{slots_of}

-- whose hart h is
abbrev pub party_for : AnyQueue → (h : ℕ) → Option Party
party_for (Indexed q) h = party_of q h
party_for (Tagged q) h = teller_of (slots_of q) h

-- a party owns the positions from its own count up to here, this one not
abbrev pub end_in : AnyQueue → Party → QueueCounts → ℕ
end_in (Indexed q) p c = end q p c
end_in (Tagged q) p c = owned_end (slots_of q) p c

-- ---- the counts after an access of a hart, which is a party or none, after an entry, and after the entries of a run

abbrev pub access_counts : AnyQueue → Option Party → Access → QueueCounts → QueueCounts
access_counts (Indexed q) p x c = after_access q p x c
access_counts (Tagged q) p x c = told_access (slots_of q) p x c

abbrev pub entry_counts : AnyQueue → QueueCounts → Entry → QueueCounts
entry_counts q c e = access_counts q (party_for q (hart_of e)) (access_of e) c

abbrev pub run_counts : AnyQueue → QueueCounts → List Entry → QueueCounts
run_counts q c es = counts_from (entry_counts q) c es

-- ---- the protocol, of one entry and of those of a run

abbrev pub KeepsOne : AnyQueue → QueueCounts → Entry → Type 0
KeepsOne (Indexed q) c e = KeepsEntry q c e
KeepsOne (Tagged q) c e = TellsEntry (slots_of q) c e

abbrev pub Keeps : AnyQueue → QueueCounts → List Entry → Type 0
Keeps (Indexed q) c es = KeepsOwnership q c es
Keeps (Tagged q) c es = KeepsTelling (slots_of q) c es

-- it has a slot: more isn't needed to decide whether entries keep it
abbrev pub HasSlot : AnyQueue → Type 0
HasSlot (Indexed q) = 1 ≤ q.size
HasSlot (Tagged q) = 1 ≤ q.size

-- ---- what the laws of the protocol ask of a queue, and of where a run begins; and the runs of which they speak

abbrev pub IsAnyQueue : AnyQueue → Type 0
IsAnyQueue (Indexed q) = IsQueue q
IsAnyQueue (Tagged q) = IsSlots (slots_of q)

abbrev pub Rests : AnyQueue → OpeningValue → List Entry → QueueCounts → Type 0
Rests (Indexed q) o es c = IsAtRest q o es c
Rests (Tagged q) o es c = RestsAt (slots_of q) o es c

abbrev pub Follows : (B : ℕ) → AnyQueue → (start : QueueCounts) → OpeningValue → (before es : List Entry) → Type 0
Follows B (Indexed q) start o before es = FollowsOwnership B q start o before es
Follows B (Tagged q) start o before es = FollowsTelling B (slots_of q) start o before es
