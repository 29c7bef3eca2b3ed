-- A list of events that ends as another one does, and from which no single event can be left out.
use Rattle.std.specs.Prelude.{ℕ, ◌≡◌, ◌+◌, ◌<◌, List, [], ◌∷◌, ◌++◌, length, map, take, drop}
use Rattle.step_machine.specs.declared.events.Event.{Event}
use Rattle.step_machine.specs.History.{History}
use Rattle.step_machine.specs.Runs.{Run}
use Rattle.litmus.specs.LitmusTests.{LitmusTest, left_sides}
use Rattle.litmus.specs.Verdicts.{IsFinished, final_value}
use Rattle.shrink.specs.declared.faults.ShrinkError.{ShrinkError}
use Rattle.shrink.specs.declared.faults.ShrinkError.TheVariants.{NoMemory, NotFinished}

-- the first list is the second one with some events left out
pub data IsPartOf : List Event → List Event → Type 0 where
  empty : IsPartOf [] []
  with_first : (ev : Event) (part whole : List Event) → IsPartOf part whole → IsPartOf (ev ∷ part) (ev ∷ whole)
  without_first : (ev : Event) (part whole : List Event) → IsPartOf part whole → IsPartOf part (ev ∷ whole)

-- the run of the events from the test's opening is finished, and leaves the observed locations with these values
pub record EndsWith (B M : ℕ) (q : LitmusTest) (events : List Event) (last : List ℕ) : Type 0 where
  pub history : History
  pub run : Run B M q.opening events history
  pub finished : IsFinished M history
  pub values : map (final_value M history) (left_sides q.condition) ≡ last

-- the events without `count` of them, from this place on
abbrev pub without : (from count : ℕ) → List Event → List Event
without from count events = take from events ++ drop (from + count) events

-- the answer is a part of the given events and ends as they do; without any one event it doesn't
pub record IsShrunk (B M : ℕ) (q : LitmusTest) (given answer : List Event) : Type 0 where
  pub last : List ℕ
  pub given_ends : EndsWith B M q given last
  pub part : IsPartOf answer given
  pub ends : EndsWith B M q answer last
  pub minimal : (i : ℕ) → i < length answer → EndsWith B M q (without i 1 answer) last → ⊥

-- why there is no answer: the run isn't finished, or there is no memory
abbrev pub RefusesRun : (M : ℕ) → History → ShrinkError → Type 0
RefusesRun M history NoMemory = Unit {0}
RefusesRun M history NotFinished = IsFinished M history → ⊥

-- the same of the run of the given events
abbrev pub RefusesTest : (B M : ℕ) → LitmusTest → List Event → ShrinkError → Type 0
RefusesTest B M q given why = (t : History) → Run B M q.opening given t → RefusesRun M t why

-- the number by which texts name a refusal
abbrev pub shrink_number : ShrinkError → ℕ
shrink_number NoMemory = 0
shrink_number NotFinished = 40
