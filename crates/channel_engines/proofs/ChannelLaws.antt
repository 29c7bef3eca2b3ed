-- What a schedule and lists of words give.
use Rattle.std.proofs.Common.{◌≡◌, ◌⊎◌, inl, inr, ℕ, Bool, List, [], refl, sym, subst, ◌∙◌, Result, Ok, Err}
use Rattle.std.specs.Prelude.{IsErrAnd}
use Rattle.hart.specs.declared.need.Report.{Report}
use Rattle.step_machine.specs.Names.{OpeningValue, History, Run, reported}
use Rattle.recorder.specs.Versions.{ScheduleValue, events_of_schedule}
use Rattle.poll_close.specs.Layout.{Layout, layout_of}
use Rattle.poll_close.specs.{AcceptedAt, Ring, opening_over, RefusesAt}
use Rattle.poll_close.specs.declared.faults.Refused.TheVariants as refused
use Rattle.poll_close.specs.declared.faults.RefusedAt.{RefusedAt}
use Rattle.poll_close.specs.declared.faults.RefusedAt.TheVariants as why
use Rattle.poll_close.specs.declared.place.BlockPlace.{BlockPlace}
use Rattle.engine_support.specs.declared.fault.Fault.{Fault}
use Rattle.engine_support.specs.declared.fault.Fault.TheVariants.{NoMemory, Refused}
use Rattle.engine_support.specs.declared.fault.Refusal.{Refusal}
use Rattle.engine_support.specs.Faults.{AnswersAs}
use Rattle.engine_support.specs.Runs.{Runs}
use Rattle.engine_support.proofs.{runs_events, stopped_by}
use Rattle.channel_engines.specs.Channels.{fault_from, IsUnfilled, IsReported, IsUnreported, Reported}
use Rattle.channel_engines.specs.UserChannels.{IsUserReported}

-- ---- what a schedule and lists give

module _ (ring : Ring) (B M : ℕ) (place : BlockPlace) (lists : List (List ℕ)) where
  -- a reason is want of memory, or one that a fault of the input has
  pub refusal_as : (because : RefusedAt) → RefusesAt ring M lists (layout_of place []) because
      → (fault_from because ≡ NoMemory) ⊎ ((r : Refusal) × (fault_from because ≡ Refused r) × IsUnfilled because)
  refusal_as (why.Lists refused.NoMemory) refuses = inl refl
  refusal_as (why.FilledBlock word) refuses = absurd (refuses.2.filled refl)
  refusal_as other refuses = inr (_, refl, tt)

  -- where there is no channel, whatever must hold of an answer that may be such a refusal
  pub no_channel : {X Y : Type 0} (IsAnswer : Result Y Refusal → Type 0) (view : X → Y) (parsed : ScheduleValue)
      → ((refusal : Refusal) → IsUnreported ring B M (layout_of place []) parsed lists refusal → IsAnswer (Err refusal))
      → (because : RefusedAt) (fault : Fault) → fault ≡ fault_from because → RefusesAt ring M lists (layout_of place []) because
      → AnswersAs IsAnswer view (Err fault)
  no_channel {X = X} IsAnswer view parsed refuse because fault holds refuses =
      elim (refusal_as because refuses) [
        | inl none ↦ subst (λ (f : Fault). AnswersAs {X = X} IsAnswer view (Err f)) (sym (holds ∙ none)) tt
        | inr is ↦
            subst (λ (f : Fault). AnswersAs {X = X} IsAnswer view (Err f)) (sym (holds ∙ is.1))
            (refuse is.0 (inl (record { why = because; unfilled = is.2; refuses = refuses; is_fault = is.1 })))
      ]

-- ---- what runs from its opening

module _ (ring : Ring) (B M : ℕ) (l : Layout) (parsed : ScheduleValue) (lists : List (List ℕ)) (o : OpeningValue) (is : o ≡ opening_over ring lists l)
    (within : AcceptedAt ring M lists l) where
  runs_there : (a : Result History Refusal) → Runs B M o parsed a → Runs B M (opening_over ring lists l) parsed a
  runs_there a = subst (λ (p : OpeningValue). Runs B M p parsed a) is

  -- a record that differs is refused as such
  pub differs_as : {A X Y : Type 0} (IsAnswer : Result A Refusal → Type 0) (view : X → History) (seen : Y → A) (result : Result Y Fault) (fault : Fault)
      → ((r : Refusal) → IsUnreported ring B M l parsed lists r → IsAnswer (Err r)) → IsErrAnd result (λ e. e ≡ fault)
      → AnswersAs (Runs B M o parsed) view (Err fault) → AnswersAs IsAnswer seen result
  differs_as IsAnswer view seen result fault more =
      stopped_by (Runs B M o parsed) IsAnswer view seen result fault
      (λ r differs. more r (inr (record { within = within; differs = runs_there (Err r) differs })))

  -- what is reported comes of the run
  pub run_reported : (finish : Bool) (t : History) (reports : List Report) → Runs B M o parsed (Ok t)
      → (Run B M (opening_over ring lists l) (events_of_schedule parsed) t → Reported finish ring B M lists l (events_of_schedule parsed) reports)
      → IsReported ring B M l finish parsed lists reports
  run_reported finish t reports ran delivers =
      let here = runs_there (Ok t) ran in
      record { within = within; ran = (t, here); delivers = delivers (runs_events B M (opening_over ring lists l) parsed t here) }

  -- and all of it, of a user's own channel
  pub user_reported : (t : History) (reports : List Report) → Runs B M o parsed (Ok t) → reports ≡ reported 0 t.entries
      → IsUserReported ring B M l parsed lists reports
  user_reported t reports ran are = record { within = within; history = t; ran = runs_there (Ok t) ran; reports_are = are }
