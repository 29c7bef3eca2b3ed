-- What the judgement of runs says of them.
use Rattle.std.proofs.Common.{ℕ, ◌≡◌, List, Some, sym, ap, subst, ◌∙◌, ◌++◌, Result, append_assoc}
use Rattle.step_machine.specs.declared.events.Event.{Event}
use Rattle.step_machine.specs.Names.{OpeningValue, History, history_of, at_opening, WellFormed}
use Rattle.step_machine.proofs.Running.{kept-at_opening, kept-run, opening_kept, run-one}
use Rattle.drawn_runs.specs.Samples.{DrawnRuns}
use Rattle.judged_runs.specs.Telling.{IsTold}
use Rattle.judged_runs.specs.declared.telling.Told.{Told}
use Rattle.judged_runs.proofs.Better.{told_better}
use Rattle.callers.specs.{call_schedule, AreCountsOf, spsc_of, IsLocated, first_caller_violation, KeepsObligations, HasNoCallerViolation, HasCallerViolation}
use Rattle.callers.specs.{CallerViolation, Located}
use Rattle.callers.specs.declared.counts.Counts.{Counts}
use Rattle.callers.proofs.Sound.{keeps_all}
use Rattle.std.specs.Prelude.{OnOk}
use Rattle.std.proofs.lemmas.Result.{on_ok_weaker}

module _ (B M : ℕ) (o : OpeningValue) (l : Located) (events : List Event) where
  -- a run has one first violation, or none
  pub one_violation : (d e : CallerViolation) → HasCallerViolation B M o l events d → HasCallerViolation B M o l events e → d ≡ e
  one_violation d e has also =
      let same : has.history ≡ also.history = run-one B M (at_opening o) events has.history also.history has.run also.run in
      let both : Some d ≡ Some e = sym has.first ∙ ap (λ (t : History). first_caller_violation M o (spsc_of l) t.entries) same ∙ also.first in cc

  pub none_or_one : (d : CallerViolation) → HasNoCallerViolation B M o l events → HasCallerViolation B M o l events d → ⊥
  none_or_one d free has =
      let same : free.history ≡ has.history = run-one B M (at_opening o) events free.history has.history free.run has.run in
      let none = free.none in
      let some = ap (λ (t : History). first_caller_violation M o (spsc_of l) t.entries) same ∙ has.first in
      absurd (cc)

  -- one without a violation keeps all
  kept : IsLocated M o l.queue l → HasNoCallerViolation B M o l events → KeepsObligations B M o l events
  kept located free = record { history = free.history; run = free.run; uses = keeps_all B M o l free.history.entries located formed free.none }
    where
      formed : WellFormed B M (history_of o free.history.entries)
      formed = subst (λ (x : OpeningValue). WellFormed B M (history_of x free.history.entries)) (opening_kept B M o events free.history free.run)
          (kept-run B M _ events free.history (kept-at_opening B M o) free.run)

-- the same of many runs
module _ (d : DrawnRuns) (o : OpeningValue) (l : Located) where
  -- what is told of runs that are good so
  abbrev pub AreTold : (Good : List Event → Type 0) → Told Counts CallerViolation → Type 0
  AreTold Good told =
      IsTold Good (HasCallerViolation d.B d.M o l) (λ found other. found ≡ other) (AreCountsOf d.B d.M o l) (call_schedule d o) d.number told

  pub told_kept : IsLocated d.M o l.queue l → (told : Told Counts CallerViolation) → AreTold (HasNoCallerViolation d.B d.M o l) told
      → AreTold (KeepsObligations d.B d.M o l) told
  told_kept located = told_better (HasNoCallerViolation d.B d.M o l) (KeepsObligations d.B d.M o l) (HasCallerViolation d.B d.M o l)
      (λ found other. found ≡ other) (AreCountsOf d.B d.M o l) (call_schedule d o) d.number (λ events. kept d.B d.M o l events located)

-- ---- a text in five pieces, which are written from the right

pub five_written : {E : Type 0} (written : Result (Unit {0}) E) (old new a b c d e : List ℕ)
    → OnOk written (new ≡ old ++ (a ++ (b ++ (c ++ (d ++ e))))) → OnOk written (new ≡ old ++ (a ++ b ++ c ++ d ++ e))
five_written written old new a b c d e put = on_ok_weaker written
    (λ is.
    is ∙ ap (λ xs. old ++ xs) (sym (append_assoc a b (c ++ (d ++ e))) ∙ sym (append_assoc (a ++ b) c (d ++ e))
    ∙ sym (append_assoc (a ++ b ++ c) d e))) put
