-- The first entry of a run that breaks its queue's protocol.
use Rattle.std.specs.Prelude.{ℕ, ◌≡◌, ◌≤◌, ◌+◌, false, if◌then◌else◌, List, [], ◌∷◌, ◌++◌, length, Option, None, Some, Result, Ok, Err}
use Rattle.std.specs.Option.{option_map}
use Rattle.memory.specs.declared.writes.Write.{Write}
use Rattle.memory.specs.Writes.{write}
use Rattle.step_machine.specs.declared.events.Entry.{Entry}
use Rattle.step_machine.specs.Access.{Access, load, store, exchange, access_of}
use Rattle.step_machine.specs.Entries.{hart_of}
use Rattle.queue_parties.specs.Parties.{Party, QueueCounts, count, known}
use Rattle.queue_layouts.specs.declared.AnyQueue.{AnyQueue}
use Rattle.ownership_runs.specs.declared.violations.Violation.{Violation}
use Rattle.ownership_runs.specs.declared.violations.Owned.{Owned}
use Rattle.ownership_runs.specs.Protocols.{party_for, access_counts, entry_counts, run_counts, Keeps}
use Rattle.ownership_runs.specs.Keeping.{owned_by, slots_in, is_described, keeps_store, is_load_alone, keeps_entry}

-- a hart's store of this, at this place of a run, is the violation
abbrev pub violation_by : AnyQueue → (place hart : ℕ) → Option Party → QueueCounts → Write → Violation
violation_by q place h p c w = record {
  place = place;
  hart = h;
  addr = w.addr;
  width = w.width;
  value = w.value;
  owned = owned_by q p c;
  described = is_described q p c w;
}

-- what an access stores, if it stores, and the counts before that, an AMO's after it has read
abbrev pub stored_of : Access → Write
stored_of (store w) = w
stored_of (exchange a old new) = write a 4 new
stored_of x = write 0 0 0

abbrev pub counts_before : AnyQueue → Option Party → QueueCounts → Access → QueueCounts
counts_before q p c (exchange a old new) = access_counts q p (load a 4 old) c
counts_before q p c x = c

-- what entry e at this place breaks, if it does
abbrev pub violation_at : AnyQueue → (place : ℕ) → QueueCounts → Entry → Violation
violation_at q place c e = let p = party_for q (hart_of e) in violation_by q place (hart_of e) p (counts_before q p c (access_of e)) (stored_of (access_of e))

-- the counts after a store of a hart, or the violation that it is; and after the store of an AMO that read this word, which the counts
-- have taken in
abbrev pub judged_store : AnyQueue → (place hart : ℕ) → Option Party → QueueCounts → Write → Result QueueCounts Violation
judged_store q place h p c w = if keeps_store q p c w then Ok (access_counts q p (store w) c) else Err (violation_by q place h p c w)

abbrev pub judged_exchange : AnyQueue → (place hart : ℕ) → Option Party → QueueCounts → (old : ℕ) → Write → Result QueueCounts Violation
judged_exchange q place h p c old w = if is_load_alone q old w.value then Ok (access_counts q p (store w) c) else judged_store q place h p c w

-- the counts after an entry that keeps the protocol, or what it breaks
abbrev pub judged_entry : AnyQueue → (place : ℕ) → QueueCounts → Entry → Result QueueCounts Violation
judged_entry q place c e = if keeps_entry q c e then Ok (entry_counts q c e) else Err (violation_at q place c e)

-- The queue's protocol has no such store of the hart then, if it is a party: not with any counts at which it has itself come as far, and knows
-- of at most as many more of the other's positions as there are slots. It never knows of more in a run that keeps the protocol
abbrev pub IsForeign : AnyQueue → Violation → Type 0
IsForeign q b = (p : Party) (d : QueueCounts) → party_for q b.hart ≡ Some p → known p d ≤ count p d + slots_in q
    → option_map (λ (o : Owned). o.from) b.owned ≡ Some (count p d) → keeps_store q (Some p) d (write b.addr b.width b.value) ≡ false

-- the first violation among entries, of which the first stands at this place
abbrev pub violation_from : AnyQueue → (place : ℕ) → QueueCounts → List Entry → Option Violation
violation_from q place c [] = None
violation_from q place c (e ∷ es) = if keeps_entry q c e then violation_from q (place + 1) (entry_counts q c e) es else Some (violation_at q place c e)

abbrev pub first_ownership_violation : AnyQueue → QueueCounts → List Entry → Option Violation
first_ownership_violation q c es = violation_from q 0 c es

-- the entries before this violation keep the protocol, and with the one at its place, which is the violation, they don't
pub record IsFirstViolation (q : AnyQueue) (c : QueueCounts) (es : List Entry) (b : Violation) : Type 0 where
  pub front : List Entry
  pub entry : Entry
  pub back : List Entry
  pub is : es ≡ front ++ entry ∷ back
  pub place : length front ≡ b.place
  pub keeps : Keeps q c front
  pub breaks : Keeps q c (front ++ entry ∷ []) → ⊥
  pub violation : b ≡ violation_at q (length front) (run_counts q c front) entry
