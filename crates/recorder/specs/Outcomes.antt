-- The texts of outcomes: what is written of one, and which words say one.
use Rattle.std.specs.Prelude.{◌≡◌, ◌⊎◌, ℕ, ◌==◌, Bool, true, false, not, ◌&&◌, if◌then◌else◌, List, [], ◌∷◌, ◌++◌, Option, Some, None, codes}
use Rattle.rv_decode.specs.Word.{IsWord}
use Rattle.hart.specs.declared.status.Stop.{Stop}
use Rattle.hart.specs.declared.status.Stop.TheVariants as stop
use Rattle.hart.specs.Steps.{stop_number}
use Rattle.step_machine.specs.declared.events.Event.{Event}
use Rattle.step_machine.specs.declared.events.Event.TheVariants.{Act, Land}
use Rattle.step_machine.specs.declared.events.Entry.{Entry}
use Rattle.step_machine.specs.declared.events.Entry.TheVariants as entry
use Rattle.step_machine.specs.declared.events.Outcome.{Outcome}
use Rattle.step_machine.specs.declared.events.Outcome.TheVariants.{Did, Waited, NothingToLand, Over, NoHart}
use Rattle.step_machine.specs.contracts.events.OutcomePartialEq.TheImpl as outcome_eq
use Rattle.step_machine.specs.Entries.{is_land, hart_of as hart_of_entry}
use Rattle.texts.specs.Rows.{Row, fixed, any, IsRowOf, Written, plain, number, row_text}
use Rattle.recorder.specs.Schedule.{hart_of_event}

-- ---- the writing

-- a word's name is the plain one
abbrev pub load_name : ℕ → List ℕ
load_name width = if width == 1 then codes "load1" else (if width == 2 then codes "load2" else codes "load")

abbrev pub store_name : ℕ → List ℕ
store_name width = if width == 1 then codes "store1" else (if width == 2 then codes "store2" else codes "store")

abbrev pub entry_row : Entry → List Written
entry_row (entry.Inner h) = plain (codes "inner") ∷ number h ∷ []
entry_row (entry.Load h a width v) = plain (load_name width) ∷ number h ∷ number a ∷ number v ∷ []
entry_row (entry.Store h a width v) = plain (store_name width) ∷ number h ∷ number a ∷ number v ∷ []
entry_row (entry.Amo h a old new) = plain (codes "amo") ∷ number h ∷ number a ∷ number old ∷ number new ∷ []
entry_row (entry.Fence h true) = plain (codes "fence") ∷ number h ∷ plain (codes "full") ∷ []
entry_row (entry.Fence h false) = plain (codes "fence") ∷ number h ∷ plain (codes "part") ∷ []
entry_row (entry.Next h (Some w)) = plain (codes "next") ∷ number h ∷ number w ∷ []
entry_row (entry.Next h None) = plain (codes "next") ∷ number h ∷ plain (codes "end") ∷ []
entry_row (entry.Took h i w) = plain (codes "took") ∷ number h ∷ number i ∷ number w ∷ []
entry_row (entry.Closed h i) = plain (codes "closed") ∷ number h ∷ number i ∷ []
entry_row (entry.Ended h) = plain (codes "ended") ∷ number h ∷ []
entry_row (entry.Stopped h why) = plain (codes "stopped") ∷ number h ∷ number (stop_number why) ∷ []
entry_row (entry.Land h) = plain (codes "land") ∷ number h ∷ []

abbrev pub outcome_row : ℕ → Outcome → List Written
outcome_row h (Did e) = entry_row e
outcome_row h Waited = plain (codes "waited") ∷ number h ∷ []
outcome_row h NothingToLand = plain (codes "nothing") ∷ number h ∷ []
outcome_row h Over = plain (codes "over") ∷ number h ∷ []
outcome_row h NoHart = plain (codes "nohart") ∷ number h ∷ []

-- an outcome's text, of an event of this hart
abbrev pub outcome_text : ℕ → Outcome → List ℕ
outcome_text h outcome = row_text (outcome_row h outcome)

-- the same as a line, ended by LF (10)
abbrev pub outcome_line : Event → Outcome → List ℕ
outcome_line event outcome = outcome_text (hart_of_event event) outcome ++ 10 ∷ []

abbrev pub entry_line : Entry → List ℕ
entry_line e = row_text (entry_row e) ++ 10 ∷ []

-- ---- which words say an outcome

-- a hart, and what an event of it was answered
abbrev pub HartOutcome : Type 0
HartOutcome = ℕ × Outcome

abbrev pub did : ℕ → Entry → Option HartOutcome
did h e = Some (h, Did e)

-- the stop of a number, 8 to 15
abbrev pub stop_of : ℕ → Option Stop
stop_of n =
    if n == 8 then Some stop.Illegal else
    (if n == 9 then Some stop.Misaligned else
    (if n == 10 then Some stop.SubWord else
    (if n == 11 then Some stop.OutOfRange else
    (if n == 12 then Some stop.MisalignedJump else
    (if n == 13 then Some stop.NoCode else
    (if n == 14 then Some stop.UnknownCall else
    (if n == 15 then Some stop.Break else None)))))))

abbrev pub stopped : ℕ → Option Stop → Option HartOutcome
stopped h None = None
stopped h (Some why) = did h (entry.Stopped h why)

abbrev pub outcome_rows : List (Row HartOutcome)
outcome_rows =
    record { places = fixed (codes "inner") ∷ any ∷ []; makes = λ h. did h (entry.Inner h) }
    ∷ record { places = fixed (codes "load") ∷ any ∷ any ∷ any ∷ []; makes = λ h a v. did h (entry.Load h a 4 v) }
    ∷ record { places = fixed (codes "load1") ∷ any ∷ any ∷ any ∷ []; makes = λ h a v. did h (entry.Load h a 1 v) }
    ∷ record { places = fixed (codes "load2") ∷ any ∷ any ∷ any ∷ []; makes = λ h a v. did h (entry.Load h a 2 v) }
    ∷ record { places = fixed (codes "store") ∷ any ∷ any ∷ any ∷ []; makes = λ h a v. did h (entry.Store h a 4 v) }
    ∷ record { places = fixed (codes "store1") ∷ any ∷ any ∷ any ∷ []; makes = λ h a v. did h (entry.Store h a 1 v) }
    ∷ record { places = fixed (codes "store2") ∷ any ∷ any ∷ any ∷ []; makes = λ h a v. did h (entry.Store h a 2 v) }
    ∷ record { places = fixed (codes "amo") ∷ any ∷ any ∷ any ∷ any ∷ []; makes = λ h a old new. did h (entry.Amo h a old new) }
    ∷ record { places = fixed (codes "fence") ∷ any ∷ fixed (codes "full") ∷ []; makes = λ h. did h (entry.Fence h true) }
    ∷ record { places = fixed (codes "fence") ∷ any ∷ fixed (codes "part") ∷ []; makes = λ h. did h (entry.Fence h false) }
    ∷ record { places = fixed (codes "next") ∷ any ∷ any ∷ []; makes = λ h w. did h (entry.Next h (Some w)) }
    ∷ record { places = fixed (codes "next") ∷ any ∷ fixed (codes "end") ∷ []; makes = λ h. did h (entry.Next h None) }
    ∷ record { places = fixed (codes "took") ∷ any ∷ any ∷ any ∷ []; makes = λ h i w. did h (entry.Took h i w) }
    ∷ record { places = fixed (codes "closed") ∷ any ∷ any ∷ []; makes = λ h i. did h (entry.Closed h i) }
    ∷ record { places = fixed (codes "ended") ∷ any ∷ []; makes = λ h. did h (entry.Ended h) }
    ∷ record { places = fixed (codes "stopped") ∷ any ∷ any ∷ []; makes = λ h n. stopped h (stop_of n) }
    ∷ record { places = fixed (codes "land") ∷ any ∷ []; makes = λ h. did h (entry.Land h) }
    ∷ record { places = fixed (codes "waited") ∷ any ∷ []; makes = λ h. Some (h, Waited) }
    ∷ record { places = fixed (codes "nothing") ∷ any ∷ []; makes = λ h. Some (h, NothingToLand) }
    ∷ record { places = fixed (codes "over") ∷ any ∷ []; makes = λ h. Some (h, Over) }
    ∷ record { places = fixed (codes "nohart") ∷ any ∷ []; makes = λ h. Some (h, NoHart) }
    ∷ []

-- ---- the outcomes that an event can have

-- a landing did nothing but land, and an act anything else; a landing never waits, and an act never finds
-- nothing to land
abbrev pub may_have : Event → Outcome → Bool
may_have (Act h) (Did e) = not (is_land e)
may_have (Act h) NothingToLand = false
may_have (Land h) (Did e) = is_land e
may_have (Land h) Waited = false
may_have ev o = true

-- The words say an outcome that the event can have.
abbrev pub SaysOutcome : Event → List (List ℕ) → Outcome → Type 0
SaysOutcome event words outcome = IsRowOf outcome_rows words (hart_of_event event, outcome) × (may_have event outcome ≡ true)

abbrev pub event_outcome : Event → Option HartOutcome → Option Outcome
event_outcome event None = None
event_outcome event (Some found) = if (found.0 == hart_of_event event) && may_have event found.1 then Some found.1 else None

-- ---- what can be written

abbrev pub IsWidth : ℕ → Type 0
IsWidth width = ((width ≡ 1) ⊎ (width ≡ 2)) ⊎ (width ≡ 4)

-- an entry of this hart, of a width that has a name
abbrev pub IsEntryOf : ℕ → Entry → Type 0
IsEntryOf h (entry.Load g a width v) = (h ≡ g) × IsWidth width
IsEntryOf h (entry.Store g a width v) = (h ≡ g) × IsWidth width
IsEntryOf h e = h ≡ hart_of_entry e

abbrev pub OutcomeFits : ℕ → Outcome → Type 0
OutcomeFits h (Did e) = IsEntryOf h e
OutcomeFits h outcome = Unit {0}

-- an outcome of the event's hart, which the event can have
abbrev pub IsOutcomeOf : Event → Outcome → Type 0
IsOutcomeOf event outcome = OutcomeFits (hart_of_event event) outcome × (may_have event outcome ≡ true)

-- its numbers are words, as those of every entry in a program are
abbrev pub HasWords : Entry → Type 0
HasWords (entry.Load h a width v) = IsWord a × IsWord v
HasWords (entry.Store h a width v) = IsWord a × IsWord v
HasWords (entry.Amo h a old new) = IsWord a × IsWord old × IsWord new
HasWords (entry.Next h (Some w)) = IsWord w
HasWords (entry.Took h i w) = IsWord i × IsWord w
HasWords (entry.Closed h i) = IsWord i
HasWords other = Unit {0}

abbrev pub OutcomeHasWords : Outcome → Type 0
OutcomeHasWords (Did e) = HasWords e
OutcomeHasWords outcome = Unit {0}

-- ---- equal outcomes

-- the test of the derived `==`, which holds of equal outcomes alone
abbrev pub is_same_outcome : Outcome → Outcome → Bool
is_same_outcome = (outcome_eq.ghosts).eq
