-- Sessions: which events were done since an opening, and what they made of it.
use Rattle.std.specs.Prelude.{ℕ, ◌≡◌, ◌-◌, List, [], ◌∷◌, ◌++◌, length, take, ◌≤◌, ◌*◌, ◌/◌, drop}
use Rattle.step_machine.specs.History.{OpeningValue, History, at_opening, up_to}
use Rattle.step_machine.specs.Runs.{Happens, Run}
use Rattle.step_machine.specs.declared.events.Event.{Event}
use Rattle.step_machine.specs.declared.events.Outcome.{Outcome}
use Rattle.step_machine.specs.Snapshots.{SnapshotView, IsTakenAt}

-- What a contract sees of a session. Every event since the opening is in the list, whatever its outcome.
pub record Past : Type 0 where
  pub opening : OpeningValue
  pub events : List Event
  pub history : History

-- nothing was done yet
abbrev pub past_at_opening : OpeningValue → Past
past_at_opening o = record { opening = o; events = []; history = at_opening o }

-- a list without its last k elements, or without all of them where there are fewer
abbrev pub without_last : {A : Type 0} → ℕ → List A → List A
without_last k xs = take (length xs - k) xs

-- one more event was done, with this outcome
pub record GoesForward (B M : ℕ) (old : Past) (event : Event) (outcome : Outcome) (new : Past) : Type 0 where
  pub opening : new.opening ≡ old.opening
  pub events : new.events ≡ old.events ++ event ∷ []
  pub happens : Happens B M old.history event outcome new.history

-- the last k events are undone, or all of them
pub record GoesBack (B M : ℕ) (old : Past) (k : ℕ) (new : Past) : Type 0 where
  pub opening : new.opening ≡ old.opening
  pub events : new.events ≡ without_last k old.events
  pub ran : Run B M old.opening (without_last k old.events) new.history

-- ---- the latest snapshot at or before a place of a session, and the events from there to the place

-- A snapshot is taken at the opening and after every 1,024 events. This many events come before the latest
-- one at or before a place.
abbrev pub snapshot_before : ℕ → ℕ
snapshot_before place = place / 1024 * 1024

-- The snapshot was taken of the session's own history, where the events before it ended, and `rest` are
-- the events from there to the place.
pub record IsNearest (B M : ℕ) (p : Past) (place : ℕ) (s : SnapshotView) (rest : List Event) : Type 0 where
  pub ran : Run B M p.opening (take (snapshot_before place) p.events) (up_to s.count p.history)
  pub taken : IsTakenAt B M (up_to s.count p.history) s
  pub events : rest ≡ drop (snapshot_before place) (take place p.events)
  pub few : length rest ≤ 1023
