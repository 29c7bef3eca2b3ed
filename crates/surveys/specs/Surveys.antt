-- What a search hands over.
use Rattle.std.specs.Prelude.{ℕ, ◌≡◌, ◌<◌, ◌≤◌, true, false, List, [], length, Option, None, IfSome, IsSomeAnd}
use Rattle.std.specs.Global.{Vec}
use Rattle.step_machine.specs.declared.events.Event.{Event}
use Rattle.step_machine.specs.History.{History}
use Rattle.litmus.specs.LitmusTests.{LitmusTest}
use Rattle.recorder.specs.Schedule.{OfHarts}
use Rattle.recorder.specs.declared.reading.TheConstants.{MAX_EVENTS}
use Rattle.surveys.specs.Wanted.{EndsAsWanted, IsCutShort, Shows}
use Rattle.surveys.specs.declared.surveying.Searched.{Searched}
use Rattle.surveys.specs.declared.surveying.Walked.{Walked}
use Rattle.surveys.specs.declared.surveying.Walked.TheVariants.{ToEnd, ToOne, NoRoom}

-- A search from the end of this history hands over no event exactly where that end is as wanted, and saw that state alone.
pub record BeginsAt (M : ℕ) (test : LitmusTest) (searched : Searched) (history : History) : Type 0 where
  pub at_once : EndsAsWanted M test history → (searched.states ≡ 1) × IsSomeAnd searched.path (λ events. events.items ≡ [])
  pub only : IfSome searched.path (λ events. events.items ≡ [] → EndsAsWanted M test history)

-- A search saw a state and no more than it might, was cut only for a reason, and what it came to can be written as a schedule.
pub record IsWithin (limit : ℕ) (searched : Searched) : Type 0 where
  pub some : 1 ≤ searched.states
  pub all : searched.is_cut ≡ false → searched.states < limit
  pub cut : searched.is_cut ≡ true → IsCutShort limit searched.states
  pub harts : IfSome searched.path (λ events. OfHarts events.items)
  pub few : IfSome searched.path (λ events. length events.items ≤ MAX_EVENTS)

-- no schedule with fewer events than these, if there are some, shows what the test asks about
abbrev pub AreShortest : (B M : ℕ) → LitmusTest → Option (Vec Event) → Type 0
AreShortest B M test path =
    IfSome path (λ events. (fewer : List Event) → length fewer < length events.items → Shows B M test fewer → ⊥)

abbrev pub IsShortest : (B M : ℕ) → LitmusTest → Searched → Type 0
IsShortest B M test searched = AreShortest B M test searched.path

-- what a search answers that began at a state which doesn't end as wanted
pub record IsAnswer (B M limit : ℕ) (test : LitmusTest) (searched : Searched) : Type 0 where
  pub within : IsWithin limit searched
  pub some : IfSome searched.path (λ events. 1 ≤ length events.items)
  pub shortest : IsShortest B M test searched

-- a walk that hands over none came to its end within the limit, or to a state by this many events and one more
abbrev pub IsWalkedWithin : (limit events : ℕ) → Walked → Type 0
IsWalkedWithin limit events (ToEnd searched) = IsWithin limit searched × (searched.path ≡ None)
IsWalkedWithin limit events ToOne = events < MAX_EVENTS
IsWalkedWithin limit events NoRoom = Unit {0}
