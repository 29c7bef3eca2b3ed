-- The debugger's state: a session whose events are the user's or come from a schedule, which has a place.
use Rattle.std.specs.Prelude.{ℕ, ◌≡◌, ◌+◌, ◌-◌, ◌≤◌, Bool, true, false, List, [], ◌∷◌, ◌++◌, length, take, drop, count_by}
use Rattle.step_machine.specs.History.{OpeningValue}
use Rattle.step_machine.specs.declared.events.Event.{Event}
use Rattle.step_machine.specs.declared.events.Outcome.{Outcome}
use Rattle.debugger.specs.declared.debugger.Source.{Source}
use Rattle.debugger.specs.declared.debugger.Source.TheVariants.{Schedule, User}
use Rattle.debugger.specs.Sessions.{Past, past_at_opening, without_last, GoesForward, GoesBack}

-- What a contract sees of a debugger: the session, the schedule, where each of the session's events came
-- from, and how many of the schedule's events were done.
pub record DebuggerState : Type 0 where
  pub past : Past
  pub schedule : List Event
  pub sources : List Source
  pub place : ℕ

abbrev pub is_scheduled : Source → Bool
is_scheduled Schedule = true
is_scheduled User = false

-- how many of the events came from the schedule
abbrev pub scheduled : List Source → ℕ
scheduled sources = count_by is_scheduled sources

-- those of the events that came from the schedule
abbrev pub of_schedule : List Source → List Event → List Event
of_schedule [] events = []
of_schedule (source ∷ sources) [] = []
of_schedule (Schedule ∷ sources) (event ∷ events) = event ∷ of_schedule sources events
of_schedule (User ∷ sources) (event ∷ events) = of_schedule sources events

-- Each event has its source, and those that came from the schedule are the schedule's up to its place.
pub record IsWellFormed (w : DebuggerState) : Type 0 where
  pub each : length w.sources ≡ length w.past.events
  pub place : w.place ≡ scheduled w.sources
  pub within : w.place ≤ length w.schedule
  pub done : of_schedule w.sources w.past.events ≡ take w.place w.schedule

-- nothing was done yet
abbrev pub debugger_at_opening : OpeningValue → List Event → DebuggerState
debugger_at_opening o schedule = record { past = past_at_opening o; schedule = schedule; sources = []; place = 0 }

-- one more event from this source, with this outcome
pub record TakesEvent (B M : ℕ) (old : DebuggerState) (event : Event) (source : Source) (outcome : Outcome) (new : DebuggerState) : Type 0 where
  pub past : GoesForward B M old.past event outcome new.past
  pub schedule : new.schedule ≡ old.schedule
  pub sources : new.sources ≡ old.sources ++ source ∷ []
  pub place : new.place ≡ old.place + scheduled (source ∷ [])

-- The last k events are undone, or all of them. The place goes back by those that came from the schedule.
pub record GoesBackBy (B M : ℕ) (old : DebuggerState) (k : ℕ) (new : DebuggerState) : Type 0 where
  pub past : GoesBack B M old.past k new.past
  pub schedule : new.schedule ≡ old.schedule
  pub sources : new.sources ≡ without_last k old.sources
  pub place : new.place + scheduled (drop (length old.sources - k) old.sources) ≡ old.place
