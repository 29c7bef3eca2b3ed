-- The steps of a record's text can be written again, and so can those of a run.
use Rattle.std.proofs.Common.{◌≡◌, inl, inr, ℕ, ◌<◌, ◌||◌, ◌==◌, false, List, [], ◌∷◌, length, Option, Some, None, refl, sym, ap, subst, ◌∙◌, arith}
use Rattle.std.specs.Prelude.{IsTrue}
use Rattle.std.specs.List.{All}
use Rattle.std.proofs.lemmas.Bool.{eqb-true}
use Rattle.std.proofs.lemmas.List.Elements.{All-nil, All-cons, All-head, All-tail, All-replicate}
use Rattle.hart.specs.declared.status.Stop.{Stop}
use Rattle.hart.specs.{HartState, need_of}
use Rattle.hart.specs.declared.need.Need.{Need}
use Rattle.hart.proofs.Needs.{IsTrueOf, need_is_true}
use Rattle.step_machine.specs.Names.{OpeningValue, History, at_opening, IsFor, CanFollow, idle, Happens}
use Rattle.step_machine.specs.Entries.{is_land, hart_of as hart_of_entry}
use Rattle.step_machine.specs.Paths.{entry_of, number_read, CanMake}
use Rattle.step_machine.specs.declared.events.Event.{Event}
use Rattle.step_machine.specs.declared.events.Event.TheVariants.{Act, Land}
use Rattle.step_machine.specs.declared.events.Entry.{Entry}
use Rattle.step_machine.specs.declared.events.Entry.TheVariants as entry
use Rattle.step_machine.specs.declared.events.Outcome.{Outcome}
use Rattle.step_machine.specs.declared.events.Outcome.TheVariants.{Did, Waited, NothingToLand, Over, NoHart}
use Rattle.step_machine.proofs.{act_only, hart_follows, state_there}
use Rattle.texts.specs.{tokens, RowPlace, fixed, any, Made, Row, Fill, IsRowOf}
use Rattle.texts.proofs.{some_is, stand_all}
use Rattle.recorder.specs.{hart_of_event, OfHarts, HartOutcome, stopped, outcome_rows, IsWidth, IsEntryOf, OutcomeFits, IsOutcomeOf, Step, events_in, IsStepsOf}
use Rattle.recorder.specs.{SizedLine, IsLineOf, record_lines, IsRecordOf, CanBeWritten, RecordFrom, IsRunRecord}

-- ---- a run's outcomes

width_is : (width : ℕ) → IsTrue (width == 1 || width == 2 || width == 4) → IsWidth width
width_is width is = grind (arith, eqb-true)

-- an entry that a state makes is of its hart, and of a width that has a name
need_fits : (h : ℕ) (s : HartState) (n : Need) (v : ℕ) → IsTrueOf s n → IsEntryOf h (entry_of h n v)
need_fits h s n v is = grind (arith, width_is)

made_fits : (h : ℕ) (s : HartState) (e : Entry) → hart_of_entry e ≡ h → CanMake s e → IsEntryOf h e
made_fits h s e mine can =
    subst (IsEntryOf h) (sym (can.made ∙ ap (λ g. entry_of g (need_of s) (number_read e)) mine)) (need_fits h s (need_of s) (number_read e) (need_is_true s))

act_fits : (B M : ℕ) (t : History) (h : ℕ) (e : Entry) → hart_of_entry e ≡ h → is_land e ≡ false → CanFollow B M t e → IsEntryOf h e
act_fits B M t h e mine act follows =
    let there = state_there M t h (subst (λ g. g < length t.opening.harts) mine (hart_follows B M t e follows)) in
    made_fits h there.0 e mine (act_only B M t h there.0 e mine act there.1 follows).0

added_fits : (B M : ℕ) (t : History) (event : Event) (e : Entry) → IsFor event e → CanFollow B M t e → IsOutcomeOf event (Did e)
added_fits B M t (Act h) e is follows = (act_fits B M t h e is.0 is.1 follows, grind arith)
added_fits B M t (Land h) e is follows = rw is (refl, refl)

-- an event that adds nothing has an outcome that it can have: a landing never waits, an act is never without a store
idle-fits : (M : ℕ) (t : History) (event : Event) (outcome : Outcome) → outcome ≡ idle M t event → IsOutcomeOf event outcome
idle-fits M t event outcome is = grind arith

happens_fits : (B M : ℕ) (t : History) (event : Event) (outcome : Outcome) (new : History) → Happens B M t event outcome new → IsOutcomeOf event outcome
happens_fits B M t event (Did e) new happens = added_fits B M t event e happens.for_event happens.follows
happens_fits B M t event Waited new happens = idle-fits M t event Waited happens.why
happens_fits B M t event NothingToLand new happens = idle-fits M t event NothingToLand happens.why
happens_fits B M t event Over new happens = idle-fits M t event Over happens.why
happens_fits B M t event NoHart new happens = idle-fits M t event NoHart happens.why

run_fits : (B M : ℕ) (t : History) (steps : List Step) (new : History) → RecordFrom B M t steps new → OfHarts (events_in steps) → All CanBeWritten steps
run_fits B M t [] new is harts = All-nil CanBeWritten
run_fits B M t (step ∷ steps) new is harts =
    let OfHart : Event → Type 0 = λ event. hart_of_event event < 64 in
    All-cons CanBeWritten step steps
    (All-head OfHart step.0 (events_in steps) harts, happens_fits B M t step.0 step.1 is.0 is.1)
    (run_fits B M is.0 steps new is.2 (All-tail OfHart step.0 (events_in steps) harts))

pub run_can_be_written : (B M : ℕ) (o : OpeningValue) (steps : List Step) (history : History)
    → IsRunRecord B M o steps history → OfHarts (events_in steps) → All CanBeWritten steps
run_can_be_written B M o steps history is harts = run_fits B M (at_opening o) steps history is harts

-- ---- a text's outcomes

abbrev IsFit : HartOutcome → Type 0
IsFit found = OutcomeFits found.0 found.1

-- whatever its numbers, what a row makes is fit
abbrev MakesFit : (places : List RowPlace) → Made places HartOutcome → Type 0
MakesFit [] makes = (found : HartOutcome) → makes ≡ Some found → IsFit found
MakesFit (fixed name ∷ places) makes = MakesFit places makes
MakesFit (any ∷ places) makes = (n : ℕ) → MakesFit places (makes n)

abbrev AllMakeFit : List (Row HartOutcome) → Type 0
AllMakeFit [] = Unit {0}
AllMakeFit (row ∷ rows) = MakesFit row.places row.makes × AllMakeFit rows

fill_fits : (places : List RowPlace) (makes : Made places HartOutcome) (words : List (List ℕ)) (found : HartOutcome)
    → MakesFit places makes → Fill HartOutcome places makes words found → IsFit found
fill_fits [] makes [] found fit is = fit found is
fill_fits [] makes (word ∷ words) found fit is = absurd is
fill_fits (fixed name ∷ places) makes [] found fit is = absurd is
fill_fits (fixed name ∷ places) makes (word ∷ words) found fit is = fill_fits places makes words found fit is.1
fill_fits (any ∷ places) makes [] found fit is = absurd is
fill_fits (any ∷ places) makes (word ∷ words) found fit is = fill_fits places (makes is.0) words found (fit is.0) is.2

rows-fit : (rows : List (Row HartOutcome)) (words : List (List ℕ)) (found : HartOutcome) → AllMakeFit rows → IsRowOf rows words found → IsFit found
rows-fit [] words found fit is = absurd is
rows-fit (row ∷ rows) words found fit (inl here) = fill_fits row.places row.makes words found fit.0 here
rows-fit (row ∷ rows) words found fit (inr there) = rows-fit rows words found fit.1 there

fits_as : (made found : HartOutcome) → IsFit made → Some made ≡ Some found → IsFit found
fits_as made found fit is = subst IsFit (some_is made found is) fit

stop_fits : (h : ℕ) (why : Option Stop) (found : HartOutcome) → stopped h why ≡ Some found → IsFit found
stop_fits h None found is = absurd cc
stop_fits h (Some why) found is = fits_as (h, Did (entry.Stopped h why)) found refl is

all_fit : AllMakeFit outcome_rows
all_fit = grind (arith, fits_as, stop_fits)

row_fits : (words : List (List ℕ)) (h : ℕ) (outcome : Outcome) → IsRowOf outcome_rows words (h, outcome) → OutcomeFits h outcome
row_fits words h outcome is = rows-fit outcome_rows words (h, outcome) all_fit is

line-fits : (line : SizedLine) (part : List Step) → IsLineOf line part → All CanBeWritten part
line-fits line part is = go (tokens line.0) is
  where
    go : (words : List (List ℕ)) → IsStepsOf words part → All CanBeWritten part
    go [] same = rw same (All-nil CanBeWritten)
    go (token ∷ words) (event, times, outcome, spells, hart, least, tells, same) =
        rw same (All-replicate CanBeWritten times (event, outcome) (hart, (row_fits words (hart_of_event event) outcome tells.0, tells.1)))

pub text_can_be_written : (text : List ℕ) (steps : List Step) → IsRecordOf text steps → All CanBeWritten steps
text_can_be_written text steps (body, is, ends, lines) = stand_all IsLineOf CanBeWritten line-fits (record_lines body) steps lines.0
