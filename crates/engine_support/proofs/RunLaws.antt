-- Running a schedule gives one thing, and so does noting its outcomes.
use Rattle.std.proofs.Common.{◌≡◌, ℕ, zero, suc, ◌<◌, List, [], ◌∷◌, length, take, Result, Ok, Err, refl, sym, ap, ap₂, subst, ◌∙◌, arith}
use Rattle.std.specs.Prelude.{IfOk}
use Rattle.std.specs.List.{slice_get}
use Rattle.step_machine.specs.Names.{OpeningValue, History, at_opening, Happens, Run, RepresentsHistory, Config}
use Rattle.step_machine.specs.declared.events.Event.{Event}
use Rattle.step_machine.proofs.Running.{happens-one, run-one, opening_kept}
use Rattle.recorder.specs.{Step, events_in, RecordFrom, IsRunRecord, DiffersAt}
use Rattle.recorder.specs.Versions.{ScheduleValue, events_of_schedule, plain, recorded}
use Rattle.recorder.proofs.RunRecords.{no_other, record_runs}
use Rattle.engine_support.specs.{Fault, Refusal, AnswersAs, AnswersBy}
use Rattle.engine_support.specs.Runs.{Runs, Records, differing}

-- the front of a front, and what stands in it
front : {X : Type 0} (xs : List X) (i j : ℕ) → i < j → (take i (take j xs) ≡ take i xs) × (slice_get (take j xs) i ≡ slice_get xs i)
front xs i zero less = absurd (omega (arith, less))
front [] zero (suc j) less = (refl, refl)
front [] (suc i) (suc j) less = (refl, refl)
front (x ∷ xs) zero (suc j) less = (refl, refl)
front {X = X} (x ∷ xs) (suc i) (suc j) less = let later = front xs i j (omega (arith, less)) in (ap (λ (ys : List X). x ∷ ys) later.0, later.1)

module _ (B M : ℕ) (o : OpeningValue) (steps : List Step) where
  -- what differs first differs in no record before it
  not_before : (i j : ℕ) → DiffersAt B M o steps i → DiffersAt B M o steps j → i < j → ⊥
  not_before i j first other less =
      let same = front steps i j less in
      let short : DiffersAt B M o (take j steps) i = record {
        before = first.before;
        is_record = subst (λ (xs : List Step). IsRunRecord B M o xs first.before) (sym same.0) first.is_record;
        step = first.step;
        stands = same.1 ∙ first.stands;
        outcome = first.outcome;
        after = first.after;
        happens = first.happens;
        other = first.other;
      } in
      no_other B M o (take j steps) other.before i other.is_record short

  -- so there is one place where a record differs first
  pub one_place : (i j : ℕ) → DiffersAt B M o steps i → DiffersAt B M o steps j → i ≡ j
  one_place i j first other = omega (arith, not_before i j first other, not_before j i other first)

pub one_run : (B M : ℕ) (o : OpeningValue) (parsed : ScheduleValue) (a b : Result History Refusal) → Runs B M o parsed a → Runs B M o parsed b → a ≡ b
one_run B M o (plain events) (Ok t) (Ok u) is other = ap (λ (h : History). Ok h) (run-one B M (at_opening o) events t u is other)
one_run B M o (plain events) (Ok t) (Err r) is never = absurd never
one_run B M o (plain events) (Err r) b never other = absurd never
one_run B M o (recorded steps) (Ok t) (Ok u) is other = ap (λ (h : History). Ok h)
    (run-one B M (at_opening o) (events_in steps) t u (record_runs B M o steps t is) (record_runs B M o steps u other))
one_run B M o (recorded steps) (Ok t) (Err r) is (event, differs, named) = absurd (no_other B M o steps t event is differs)
one_run B M o (recorded steps) (Err r) (Ok u) (event, differs, named) is = absurd (no_other B M o steps u event is differs)
one_run B M o (recorded steps) (Err r) (Err s) (i, first, named) (j, other, also) =
    ap (λ (x : Refusal). Err x) (named ∙ ap differing (one_place B M o steps i j first other) ∙ sym also)

-- the outcomes of some events
same_outcomes : (B M : ℕ) (t : History) (steps others : List Step) (new last : History) → RecordFrom B M t steps new
    → RecordFrom B M t others last → events_in steps ≡ events_in others → steps ≡ others
same_outcomes B M t [] [] new last is other same = refl
same_outcomes B M t ((event, outcome) ∷ steps) ((again, result) ∷ others) new last is other same =
    let events : event ≡ again = cc in
    let later : events_in steps ≡ events_in others = cc in
    let once = happens-one B M t again outcome result is.0 other.0 (subst (λ (e : Event). Happens B M t e outcome is.0) events is.1) other.1 in
    ap₂ (λ (x : Step) (xs : List Step). x ∷ xs) (λ i. (events i, once.0 i))
    (same_outcomes B M other.0 steps others new last (subst (λ (u : History). RecordFrom B M u steps new) once.1 is.2) other.2 later)
same_outcomes B M t x y new last is other same = absurd cc

abbrev refused : Refusal → Result History Refusal
refused r = Err r

-- a schedule doesn't both run and differ, and differs in one way
pub runs_or_differs : (B M : ℕ) (o : OpeningValue) (parsed : ScheduleValue) (t : History) (r : Refusal)
    → Runs B M o parsed (Ok t) → Runs B M o parsed (Err r) → ⊥
runs_or_differs B M o parsed t r ran differ = let same : Ok t ≡ refused r = one_run B M o parsed (Ok t) (Err r) ran differ in cc

pub one_difference : (B M : ℕ) (o : OpeningValue) (parsed : ScheduleValue) (r s : Refusal) → Runs B M o parsed (Err r) → Runs B M o parsed (Err s) → r ≡ s
one_difference B M o parsed r s differ other = let same : refused r ≡ refused s = one_run B M o parsed (Err r) (Err s) differ other in cc

pub one_record : (B M : ℕ) (o : OpeningValue) (parsed : ScheduleValue) (a b : Result (List Step) Refusal)
    → Records B M o parsed a → Records B M o parsed b → a ≡ b
one_record B M o parsed a b differs other = grind (arith, same_outcomes, runs_or_differs, one_difference)

-- a schedule's run keeps the opening
pub opening_stays : (B M : ℕ) (o : OpeningValue) (parsed : ScheduleValue) (t : History) → Runs B M o parsed (Ok t) → t.opening ≡ o
opening_stays B M o (plain events) t ran = opening_kept B M o events t ran
opening_stays B M o (recorded steps) t ran = opening_kept B M o (events_in steps) t (record_runs B M o steps t ran)

-- so what is after it has as many harts
module _ (B M : ℕ) (o p : OpeningValue) (same : p ≡ o) (parsed : ScheduleValue) where
  pub harts_stay : {X : Type 0} (view : X → History) (result : Result X Fault) → AnswersAs (Runs B M p parsed) view result
      → IfOk result (λ x. length (view x).opening.harts ≡ length o.harts)
  harts_stay view (Ok x) ran = ap (λ (q : OpeningValue). length q.harts) (opening_stays B M p parsed (view x) ran ∙ same)
  harts_stay view (Err fault) answers = tt

  pub harts_left : (result : Result Config Fault) → AnswersBy (Runs B M p parsed) (RepresentsHistory B M) result
      → IfOk result (λ c. length c.harts ≡ length o.harts)
  harts_left (Ok c) (t, ran, stands) = stands.count ∙ ap (λ (q : OpeningValue). length q.harts) (opening_stays B M p parsed t ran ∙ same)
  harts_left (Err fault) answers = tt

-- and runs its events
pub runs_events : (B M : ℕ) (o : OpeningValue) (parsed : ScheduleValue) (t : History) → Runs B M o parsed (Ok t) → Run B M o (events_of_schedule parsed) t
runs_events B M o parsed t ran = grind (arith, record_runs)

-- the record of a run of events alone
pub noted : (B M : ℕ) (o : OpeningValue) (steps : List Step) (events : List Event) (parsed : ScheduleValue)
    → parsed ≡ plain events → events_in steps ≡ events → (h : History) × IsRunRecord B M o steps h
    → Records B M o parsed (Ok steps)
noted B M o steps events parsed is same ran = subst (λ (s : ScheduleValue). Records B M o s (Ok steps)) (sym is)
    (same, (ran.0, subst (λ (es : List Event). Run B M o es ran.0) same (record_runs B M o steps ran.0 ran.1), ran.1))
