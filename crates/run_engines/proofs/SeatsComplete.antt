-- Which faults of threads the command `threads` refuses with: `threads_refused`. The seats that it opens are
-- complete, one of each role for each hart and no other. So `Missing` can only mean that the bank has lost a
-- hart.
use Rattle.std.proofs.Common.{◌≡◌, inl, inr, ℕ, zero, suc, ◌+◌, ◌≤◌, Bool, true, false, ltb, eqb, cond, List, [], ◌∷◌, length, count_by, Err, refl, sym, ◌∙◌}
use Rattle.std.proofs.Common.{ap, subst, arith, ◌<◌, ◌++◌}
use Rattle.std.specs.List.{list_any}
use Rattle.std.proofs.lemmas.Bool.{cases_Bool, le-ltb, ltb-false, ne_eqb}
use Rattle.std.proofs.lemmas.Bool.Decides.{nat_tests}
use Rattle.std.proofs.lemmas.List.Folds.{list_any-append}
use Rattle.std.proofs.lemmas.List.Sums.{sum_by-append}
use Rattle.step_machine.specs.Names.{OpeningValue, IsOfHarts, event_of}
use Rattle.litmus.specs.LitmusTests.{LitmusTest}
use Rattle.hart_threads.specs.{SeatView, acting_seat, landing_seat, seats_below, seats_of, is_missing, sits_at, acts_for, lands_for, Fails, IsLost}
use Rattle.hart_threads.specs.declared.fault.Fault.{Fault}
use Rattle.hart_threads.specs.declared.fault.Fault.TheVariants as fault
use Rattle.engine_support.specs.{AnswersAs, text_and_value}
use Rattle.run_engines.specs.Threads.{IsThreadsGiven, fault_of_threads}
use Rattle.std.specs.Prelude.{map, All}
use Rattle.std.proofs.lemmas.List.Elements.{All-map, All-weaker}
use Rattle.step_machine.specs.declared.events.Event.{Event}
use Rattle.step_machine.specs.declared.events.Entry.{Entry}
use Rattle.step_machine.specs.Entries as entries
use Rattle.recorder.specs.Schedule.{OfHarts, hart_of_event}

-- one more hart
one_more : (n h c : ℕ) → c ≡ cond (ltb h n) 1 0 → c + cond (eqb n h) 1 0 ≡ cond (ltb h (suc n)) 1 0
one_more n h c is = grind (arith, nat_tests)

module _ (M : ℕ) (o : OpeningValue) (h : ℕ) where
  -- the seats of one hart
  abbrev both_seats : ℕ → List SeatView
  both_seats n = acting_seat M o n ∷ landing_seat n ∷ []

  one_of_each : (n : ℕ) (b : Bool) → eqb n h ≡ b → (count_by (acts_for h) (both_seats n) ≡ cond b 1 0) × (count_by (lands_for h) (both_seats n) ≡ cond b 1 0)
  one_of_each n true is = rw is (refl, refl)
  one_of_each n false is = rw is (refl, refl)

  -- a role of which each hart has one seat
  one_seat : (role : SeatView → Bool) → ((n : ℕ) → count_by role (both_seats n) ≡ cond (eqb n h) 1 0) → (n : ℕ)
      → count_by role (seats_below M o n) ≡ cond (ltb h n) 1 0
  one_seat role each zero = sym (ap (λ (b : Bool). cond b 1 0) (le-ltb h 0 (omega arith)))
  one_seat role each (suc n) =
      sum_by-append (λ (s : SeatView). cond (role s) 1 0) (seats_below M o n) (both_seats n)
      ∙ ap (λ (k : ℕ). count_by role (seats_below M o n) + k) (each n) ∙ one_more n h _ (one_seat role each n)

  sitting : (n : ℕ) → n ≤ h → list_any (sits_at h) (seats_below M o n) ≡ false
  sitting zero le = refl
  sitting (suc n) le = list_any-append (sits_at h) (seats_below M o n) (both_seats n) ∙ rw (sitting n (omega arith), ne_eqb n h (λ same. omega arith)) refl

  pub seats_complete : (n : ℕ) → is_missing n (seats_below M o n) h ≡ false
  unfolding is_missing
  seats_complete n = elim (cases_Bool (ltb h n)) [
    | inl less ↦
        let acts : count_by (acts_for h) (seats_below M o n) ≡ 1 =
        one_seat (acts_for h) (λ k. (one_of_each k _ refl).0) n ∙ ap (λ (b : Bool). cond b 1 0) less in
        let lands : count_by (lands_for h) (seats_below M o n) ≡ 1 =
        one_seat (lands_for h) (λ k. (one_of_each k _ refl).1) n ∙ ap (λ (b : Bool). cond b 1 0) less in
        rw (less, acts, lands) refl
    | inr more ↦ rw more (sitting n (ltb-false h n more))
  ]

-- what a run on threads refuses where all seats are there
pub threads_refused : (B M n : ℕ) (q : LitmusTest) (o : OpeningValue) (seats : List SeatView) (e : Fault)
    → seats ≡ seats_of M o → o ≡ q.opening → Fails B M n o seats e
    → AnswersAs (IsThreadsGiven B M n q) text_and_value (Err (fault_of_threads e))
threads_refused B M n q o seats fault.NoMemory is opening fails = tt
threads_refused B M n q o seats fault.NoThread is opening fails = (refl, inr (inr (inl refl)))
threads_refused B M n q o seats (fault.Missing h) is opening (inl first) =
    let missing : is_missing (length o.harts) (seats_of M o) h ≡ true = subst (λ (l : List SeatView). is_missing (length o.harts) l h ≡ true) is first.here in
    let e : true ≡ false = sym missing ∙ seats_complete M o h (length o.harts) in cc
threads_refused B M n q o seats (fault.Missing h) is opening (inr lost) = (
  refl,
  inr (inl (
    refl,
    (
      h,
      subst (λ (x : OpeningValue). IsLost B M n x (seats_of M x) h) opening
          (subst (λ (l : List SeatView). IsLost B M n o l h) is lost),
    ),
  )),
)
threads_refused B M n q o seats (fault.Mismatch h es) is opening fails = (refl, inl refl)

-- ---- what threads made is a schedule of harts below 64

event_hart : (e : Entry) → hart_of_event (event_of e) ≡ entries.hart_of e
event_hart e = grind arith

pub of_64 : (o : OpeningValue) (evs : List Event) (es : List Entry) → evs ≡ map event_of es → All (IsOfHarts o) es → length o.harts ≤ 64 → OfHarts evs
of_64 o evs es each of few =
    subst OfHarts (sym each)
    (All-map (λ (ev : Event). hart_of_event ev < 64) event_of es
    (All-weaker (IsOfHarts o) (λ (e : Entry). hart_of_event (event_of e) < 64)
    (λ e lt. (let same : hart_of_event (event_of e) ≡ entries.hart_of e = event_hart e in omega arith)) es of))

pub joined : (all text more a b : List ℕ) → all ≡ text ++ more → text ≡ a → more ≡ b → all ≡ a ++ b
joined all text more a b p q r = cc
