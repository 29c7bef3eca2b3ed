-- Records of runs, one more step at a time, and checks of them.
use Rattle.std.proofs.Common.{arith, ◌≡◌, ◌≢◌, ℕ, zero, suc, ◌+◌, ◌<◌, List, [], ◌∷◌, ◌++◌, length, take, get_or, Some, refl, sym, ap, subst, ◌∙◌}
use Rattle.std.specs.List.{slice_get}
use Rattle.std.proofs.lemmas.List.{take_more}
use Rattle.std.proofs.lemmas.Option.{slice_get-get_or}
use Rattle.step_machine.specs.Names.{OpeningValue, History, at_opening, Happens, RunFrom, Run}
use Rattle.step_machine.specs.declared.events.Event.{Event}
use Rattle.step_machine.specs.declared.events.Outcome.{Outcome}
use Rattle.step_machine.proofs.Running.{happens-one}
use Rattle.texts.proofs.ResultLaws.{some_is}
use Rattle.recorder.specs.{Step, events_in, RecordFrom, IsRunRecord, DiffersAt}

-- one more step at the end
pub RecordFrom-more : (B M : ℕ) (t : History) (steps : List Step) (mid : History) (step : Step) (new : History)
    → RecordFrom B M t steps mid → Happens B M mid step.0 step.1 new → RecordFrom B M t (steps ++ step ∷ []) new
RecordFrom-more B M t [] mid step new is happens = (new, subst (λ (u : History). Happens B M u step.0 step.1 new) is happens, refl)
RecordFrom-more B M t (first ∷ steps) mid step new is happens = (is.0, is.1, RecordFrom-more B M is.0 steps mid step new is.2 happens)

-- a record of a run is a run of its events
pub RecordFrom-RunFrom : (B M : ℕ) (t : History) (steps : List Step) (new : History) → RecordFrom B M t steps new → RunFrom B M t (events_in steps) new
RecordFrom-RunFrom B M t [] new is = is
RecordFrom-RunFrom B M t (step ∷ steps) new is = (step.1, is.0, is.1, RecordFrom-RunFrom B M is.0 steps new is.2)

-- the first steps are a record, and the next has happened as it says
pub record_more : (B M : ℕ) (t : History) (steps : List Step) (i : ℕ) (d : Step) (mid : History) (new : History)
    → i < length steps → RecordFrom B M t (take i steps) mid
    → Happens B M mid (get_or steps i d).0 (get_or steps i d).1 new → RecordFrom B M t (take (i + 1) steps) new
record_more B M t steps i d mid new within is happens = subst (λ (front : List Step). RecordFrom B M t front new)
    (sym (take_more steps i d within)) (RecordFrom-more B M t (take i steps) mid (get_or steps i d) new is happens)

pub checked_more : (B M : ℕ) (t : History) (steps : List Step) (i : ℕ) (d : Step) (mid : History) (o : Outcome)
    (new : History) → i < length steps → RecordFrom B M t (take i steps) mid
    → Happens B M mid (get_or steps i d).0 o new → o ≡ (get_or steps i d).1 → RecordFrom B M t (take (i + 1) steps) new
checked_more B M t steps i d mid o new within is happens same = record_more B M t steps i d mid new within is
    (subst (λ (p : Outcome). Happens B M mid (get_or steps i d).0 p new) same happens)

-- or the next has another outcome than it says
pub differs_here : (B M : ℕ) (o : OpeningValue) (steps : List Step) (i : ℕ) (d : Step) (mid : History) (out : Outcome) (new : History) → i < length steps
    → IsRunRecord B M o (take i steps) mid → Happens B M mid (get_or steps i d).0 out new → out ≢ (get_or steps i d).1 → DiffersAt B M o steps i
differs_here B M o steps i d mid out new within is happens other = grind (arith, get_or, slice_get-get_or)

-- ---- the events of a record

events_in-append : (front back : List Step) → events_in (front ++ back) ≡ events_in front ++ events_in back
events_in-append [] back = refl
events_in-append (step ∷ front) back = ap (λ (rest : List Event). step.0 ∷ rest) (events_in-append front back)

pub events_more : (steps : List Step) (i : ℕ) (d : Step) (old new : List Event) → i < length steps
    → old ≡ events_in (take i steps) → new ≡ old ++ (get_or steps i d).0 ∷ [] → new ≡ events_in (take (i + 1) steps)
events_more steps i d old new within so_far pushed =
    pushed
    ∙ ap (λ (front : List Event). front ++ (get_or steps i d).0 ∷ []) so_far
    ∙ sym (events_in-append (take i steps) (get_or steps i d ∷ []))
    ∙ ap events_in (sym (take_more steps i d within))

-- one more event has happened, and is noted
pub one_recorded : (B M : ℕ) (t : History) (old new : List Step) (events : List Event) (i : ℕ) (d : Event) (o : Outcome) (mid after : History)
    → i < length events → RecordFrom B M t old mid → events_in old ≡ take i events
    → Happens B M mid (get_or events i d) o after → new ≡ old ++ (get_or events i d, o) ∷ []
    → RecordFrom B M t new after × (events_in new ≡ take (i + 1) events)
one_recorded B M t old new events i d o mid after within is same happens noted = grind (arith, get_or, RecordFrom-more, events_in-append, take_more)

-- ---- a check has one answer

alike : (B M : ℕ) (t : History) (steps : List Step) (a b : History) → RecordFrom B M t steps a → RecordFrom B M t steps b → a ≡ b
alike B M t [] a b one other = one ∙ sym other
alike B M t (step ∷ steps) a b one other = grind (arith, happens-one, alike B M other.0 steps a b)

-- the part of a record before a place, and what its step says there
cut : (B M : ℕ) (t : History) (steps : List Step) (new : History) (k : ℕ) (step : Step) → RecordFrom B M t steps new
    → slice_get steps k ≡ Some step
    → (before : History) × (after : History) × RecordFrom B M t (take k steps) before
    × Happens B M before step.0 step.1 after
cut B M t [] new k step is stands = absurd cc
cut B M t (first ∷ steps) new zero step is stands = (t, is.0, refl, subst (λ (s : Step). Happens B M t s.0 s.1 is.0) (some_is first step stands) is.1)
cut B M t (first ∷ steps) new (suc k) step is stands = grind (arith, cut B M is.0 steps new k step is.2 stands)

-- where each outcome is the run's, none differs
pub no_other : (B M : ℕ) (o : OpeningValue) (steps : List Step) (history : History) (k : ℕ) → IsRunRecord B M o steps history → ¬ DiffersAt B M o steps k
no_other B M o steps history k is differs = grind (arith, cut, alike, happens-one)

pub record_runs : (B M : ℕ) (o : OpeningValue) (steps : List Step) (history : History) → IsRunRecord B M o steps history → Run B M o (events_in steps) history
record_runs B M o steps history is = RecordFrom-RunFrom B M (at_opening o) steps history is
