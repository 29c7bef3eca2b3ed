-- What a list of events makes of an opening. An event adds the one entry of its kind with which the
-- whole list stays legal and its hart keeps a path; where there is none it adds nothing, and the
-- outcome says why.
use Rattle.std.specs.Prelude.{ℕ, ◌≡◌, false, if◌then◌else◌, List, [], ◌∷◌, map, Option, Some, None}
use Rattle.hart.specs.State.{HartState}
use Rattle.hart.specs.declared.status.Status.{Status}
use Rattle.hart.specs.declared.status.Status.TheVariants as status
use Rattle.step_machine.specs.declared.events.Event.{Event}
use Rattle.step_machine.specs.declared.events.Event.TheVariants as event
use Rattle.step_machine.specs.declared.events.Entry.{Entry}
use Rattle.step_machine.specs.declared.events.Entry.TheVariants as entry
use Rattle.step_machine.specs.declared.events.Outcome.{Outcome}
use Rattle.step_machine.specs.declared.events.Outcome.TheVariants as outcome
use Rattle.step_machine.specs.History.{OpeningValue, History, at_opening, with_entry}
use Rattle.step_machine.specs.Entries.{hart_of, is_land}
use Rattle.step_machine.specs.Paths.{state_of, Path}
use Rattle.step_machine.specs.Legal.{Legal}

-- an act of a hart adds an entry of the hart's own, a landing the hart's landing
abbrev pub IsFor : Event → Entry → Type 0
IsFor (event.Act h) e = (hart_of e ≡ h) × (is_land e ≡ false)
IsFor (event.Land h) e = e ≡ entry.Land h

-- with this entry the list stays legal and the entry's hart keeps a path
pub record CanFollow (B M : ℕ) (t : History) (e : Entry) : Type 0 where
  pub legal : Legal B (with_entry t e)
  pub path : Path M (with_entry t e) (hart_of e)

abbrev pub NoEntry : ℕ → ℕ → History → Event → Type 0
NoEntry B M t ev = (d : Entry) → IsFor ev d → CanFollow B M t d → ⊥

abbrev pub idle_in : Status → Outcome → Outcome
idle_in status.Running waiting = waiting
idle_in status.Ended waiting = outcome.Over
idle_in (status.Stopped why) waiting = outcome.Over

abbrev pub idle_of : Option HartState → Outcome → Outcome
idle_of None waiting = outcome.NoHart
idle_of (Some s) waiting = idle_in s.status waiting

-- why an event that adds nothing does so
abbrev pub idle : ℕ → History → Event → Outcome
idle M t (event.Act h) = idle_of (state_of M t h) outcome.Waited
idle M t (event.Land h) = idle_of (state_of M t h) outcome.NothingToLand

-- the event adds this entry, and no other could be added
pub record Adds (B M : ℕ) (t : History) (ev : Event) (e : Entry) (new : History) : Type 0 where
  pub for_event : IsFor ev e
  pub follows : CanFollow B M t e
  pub only : (d : Entry) → IsFor ev d → CanFollow B M t d → d ≡ e
  pub after : new ≡ with_entry t e

-- the event adds nothing, since nothing could be added
pub record Idles (B M : ℕ) (t : History) (ev : Event) (o : Outcome) (new : History) : Type 0 where
  pub none : NoEntry B M t ev
  pub why : o ≡ idle M t ev
  pub after : new ≡ t

-- the event has this outcome and makes this history of the one before
abbrev pub Happens : ℕ → ℕ → History → Event → Outcome → History → Type 0
Happens B M t ev (outcome.Did e) new = Adds B M t ev e new
Happens B M t ev outcome.Waited new = Idles B M t ev outcome.Waited new
Happens B M t ev outcome.NothingToLand new = Idles B M t ev outcome.NothingToLand new
Happens B M t ev outcome.Over new = Idles B M t ev outcome.Over new
Happens B M t ev outcome.NoHart new = Idles B M t ev outcome.NoHart new

-- these events, one after the other, make this history of the one before
abbrev pub RunFrom : ℕ → ℕ → History → List Event → History → Type 0
RunFrom B M t [] new = new ≡ t
RunFrom B M t (ev ∷ evs) new = (o : Outcome) × (mid : History) × Happens B M t ev o mid × RunFrom B M mid evs new

-- these events make this history of the opening
abbrev pub Run : ℕ → ℕ → OpeningValue → List Event → History → Type 0
Run B M o evs t = RunFrom B M (at_opening o) evs t

-- the event by which an entry comes about
abbrev pub event_of : Entry → Event
event_of e = if is_land e then event.Land (hart_of e) else event.Act (hart_of e)

-- the history is the run of its own entries' events
abbrev pub IsOwnRun : ℕ → ℕ → History → Type 0
IsOwnRun B M t = Run B M t.opening (map event_of t.entries) t
