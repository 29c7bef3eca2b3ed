-- Runs: each is legal with a path for every hart, goes on from its end, and is the only one of its
-- events.
use Rattle.std.proofs.Common.{arith, ◌≡◌, ℕ, ◌+◌, ◌<◌, true, ◌⊎◌, List, [], ◌∷◌, ◌++◌, length, take, get_or, Option, Some, None, refl, sym, ◌∙◌, ap, subst}
use Rattle.std.specs.List.{slice_get}
use Rattle.std.proofs.lemmas.Bool.{eqb-true}
use Rattle.std.proofs.lemmas.List.{take_more}
use Rattle.std.specs.Prelude.{All}
use Rattle.std.proofs.lemmas.List.Elements.{All-nil, All-push}
use Rattle.std.proofs.lemmas.Option.{slice_get-get_or, slice_get_within}
use Rattle.step_machine.specs.Names.{Event, Entry, Outcome, HartOpeningValue, OpeningValue, History, at_opening, with_entry, hart_of, is_own, PathOf, IsOfHarts}
use Rattle.step_machine.specs.Names.{WellFormed, CanFollow, Adds, Idles, Happens, RunFrom, Run}
use Rattle.step_machine.specs.declared.events.Outcome.TheVariants as outcome
use Rattle.step_machine.proofs.Follows.{Path-other}

-- an outcome is an entry added, or nothing
pub shape_of : (B M : ℕ) (t : History) (ev : Event) (o : Outcome) (new : History) → Happens B M t ev o new
    → ((e : Entry) × (o ≡ outcome.Did e) × Adds B M t ev e new) ⊎ Idles B M t ev o new
shape_of B M t ev o new h = grind arith

own_hart : (k : ℕ) (e : Entry) → is_own k e ≡ true → hart_of e ≡ k
own_hart k e is = grind (arith, eqb-true)

-- what can follow is of one of the opening's harts
pub hart_follows : (B M : ℕ) (t : History) (e : Entry) → CanFollow B M t e → hart_of e < length t.opening.harts
hart_follows B M t e f = grind (arith, slice_get_within)

pub kept_after : (B M : ℕ) (t : History) (e : Entry) → WellFormed B M t → CanFollow B M t e → WellFormed B M (with_entry t e)
kept_after B M t e kept f = grind (
  arith,
  All-push (IsOfHarts t.opening) t.entries e kept.of_harts (hart_follows B M t e f),
  hart_follows B M t e f,
  own_hart,
  Path-other M t,
)

pub kept-happens : (B M : ℕ) (t : History) (ev : Event) (o : Outcome) (new : History) → WellFormed B M t → Happens B M t ev o new → WellFormed B M new
kept-happens B M t ev o new kept h = grind (arith, shape_of, kept_after)

pub kept-at_opening : (B M : ℕ) (o : OpeningValue) → WellFormed B M (at_opening o)
kept-at_opening B M o = record { legal = tt; paths = λ h within. at h within (slice_get o.harts h) refl; of_harts = All-nil (IsOfHarts o) }
  where
    at : (h : ℕ) → h < length o.harts → (so : Option HartOpeningValue) → slice_get o.harts h ≡ so → PathOf M so []
    at h within None none =
        let some : slice_get o.harts h ≡ Some (get_or o.harts h (record { code = []; registers = []; inbox = [] })) = slice_get-get_or o.harts h _ within in
        cc
    at h within (Some x) is = tt

pub kept-run : (B M : ℕ) (t : History) (evs : List Event) (new : History) → WellFormed B M t → RunFrom B M t evs new → WellFormed B M new
kept-run B M t [] new kept run = subst (WellFormed B M) (sym run) kept
kept-run B M t (ev ∷ evs) new kept run = kept-run B M run.1 evs new (kept-happens B M t ev run.0 run.1 kept run.2) run.3

-- what each event keeps, each run keeps, the histories between being kept too: for the crates above
pub run_induction : (B M : ℕ) (P : History → Type 0) →
    ((t : History) (ev : Event) (o : Outcome) (new : History) → WellFormed B M t → P t → Happens B M t ev o new → P new)
    → (t : History) (evs : List Event) (new : History) → WellFormed B M t → P t → RunFrom B M t evs new → P new
run_induction B M P step t [] new kept holds run = subst P (sym run) holds
run_induction B M P step t (ev ∷ evs) new kept holds run =
    run_induction B M P step run.1 evs new (kept-happens B M t ev run.0 run.1 kept run.2) (step t ev run.0 run.1 kept holds run.2) run.3

-- an event leaves the opening, and so does a run
pub opening-happens : (B M : ℕ) (t : History) (ev : Event) (o : Outcome) (new : History) → Happens B M t ev o new → new.opening ≡ t.opening
opening-happens B M t ev o new h = grind (arith, shape_of)

pub opening-run : (B M : ℕ) (t : History) (evs : List Event) (new : History) → RunFrom B M t evs new → new.opening ≡ t.opening
opening-run B M t [] new run = ap (λ (u : History). u.opening) run
opening-run B M t (ev ∷ evs) new run = opening-run B M run.1 evs new run.3 ∙ opening-happens B M t ev run.0 run.1 run.2

pub opening_kept : (B M : ℕ) (o : OpeningValue) (evs : List Event) (t : History) → Run B M o evs t → t.opening ≡ o
opening_kept B M o evs t run = opening-run B M (at_opening o) evs t run

-- a run's entries are of its opening's harts
pub of_harts-run : (B M : ℕ) (o : OpeningValue) (evs : List Event) (t : History) → Run B M o evs t → All (IsOfHarts o) t.entries
of_harts-run B M o evs t run = grind (arith, opening_kept B M o evs t run, kept-run B M (at_opening o) evs t (kept-at_opening B M o) run, kept-at_opening B M o)

-- a run goes on by one event from its end
pub RunFrom-more : (B M : ℕ) (t : History) (evs : List Event) (mid : History) (ev : Event) (o : Outcome)
    (new : History) → RunFrom B M t evs mid → Happens B M mid ev o new → RunFrom B M t (evs ++ ev ∷ []) new
RunFrom-more B M t [] mid ev o new run h = (o, new, subst (λ (u : History). Happens B M u ev o new) run h, refl)
RunFrom-more B M t (e ∷ evs) mid ev o new run h = (run.0, run.1, run.2, RunFrom-more B M run.1 evs mid ev o new run.3 h)

-- a run goes on by a run from its end (for proofs about further programs)
pub RunFrom-append : (B M : ℕ) (t : History) (evs : List Event) (mid : History) (more : List Event) (new : History)
    → RunFrom B M t evs mid → RunFrom B M mid more new → RunFrom B M t (evs ++ more) new
RunFrom-append B M t [] mid more new run next = subst (λ (u : History). RunFrom B M u more new) run next
RunFrom-append B M t (e ∷ evs) mid more new run next = (run.0, run.1, run.2, RunFrom-append B M run.1 evs mid more new run.3 next)

-- the first i events have run, and the next has happened
pub run_more : (B M : ℕ) (t : History) (evs : List Event) (i : ℕ) (d : Event) (mid : History) (o : Outcome)
    (new : History) → i < length evs → RunFrom B M t (take i evs) mid → Happens B M mid (get_or evs i d) o new
    → RunFrom B M t (take (i + 1) evs) new
run_more B M t evs i d mid o new within run h =
    subst (λ (es : List Event). RunFrom B M t es new) (sym (take_more evs i d within)) (RunFrom-more B M t (take i evs) mid (get_or evs i d) o new run h)

-- one event has one outcome and one history after it
pub happens-one : (B M : ℕ) (t : History) (ev : Event) (o p : Outcome) (new other : History)
    → Happens B M t ev o new → Happens B M t ev p other → (o ≡ p) × (new ≡ other)
happens-one B M t ev o p new other h k = grind (arith, shape_of)

pub run-one : (B M : ℕ) (t : History) (evs : List Event) (new other : History) → RunFrom B M t evs new → RunFrom B M t evs other → new ≡ other
run-one B M t [] new other run next = run ∙ sym next
run-one B M t (ev ∷ evs) new other run next = grind (arith, happens-one, run-one B M run.1 evs new other run.3)
