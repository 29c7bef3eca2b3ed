-- Runs, one more at a time, and those of two parts together.
use Rattle.std.proofs.Common.{ℕ, zero, suc, ◌≡◌, ◌+◌, ◌-◌, ◌*◌, ◌≤◌, inl, inr, List, [], ◌∷◌, ◌++◌, length, refl, sym, ap, subst, ◌∙◌, arith}
use Rattle.std.proofs.Math.Nat.{eq-or-lt_of_le}
use Rattle.std.proofs.lemmas.Bool.{cases_lt}
use Rattle.rand_core.specs.Stream.{Stream}
use Rattle.step_machine.specs.declared.events.Event.{Event}
use Rattle.recorder.specs.Drawing.{drawn_words, left_after}
use Rattle.drawn_runs.specs.Draws.{events_by, schedule_by}
use Rattle.drawn_runs.specs.declared.draws.Draw.{Draw}
use Rattle.judged_runs.specs.Finding.{schedules_from, AreGood, AreAllGood, IsFirstFlawed}

-- what was drawn is the schedule of this number
pub schedule_is : (by : Draw) (n harts size number : ℕ) (stream now : Stream) (events given : List Event) → given ≡ events
    → events ≡ events_by by n (drawn_words size now) → n ≡ harts → now ≡ left_after (number * size) stream → given ≡ schedule_by by harts size stream number
schedule_is by n harts size number stream now events given same drawn all left =
    same ∙ drawn ∙ ap (λ (k : ℕ). events_by by k (drawn_words size now)) all ∙ ap (λ (s : Stream). events_by by harts (drawn_words size s)) left

module _ (schedule : ℕ → List Event) where
  schedules_more : (first n : ℕ) → schedules_from schedule first (n + 1) ≡ schedules_from schedule first n ++ schedule (first + n) ∷ []
  schedules_more first zero = let here : first ≡ first + 0 = omega arith in ap (λ (k : ℕ). schedule k ∷ []) here
  schedules_more first (suc n) =
      let next : first + 1 + n ≡ first + suc n = omega arith in
      let one : suc n + 1 ≡ suc (n + 1) = omega arith in
      ap (schedules_from schedule first) one ∙ ap (λ rest. schedule first ∷ rest) (schedules_more (first + 1) n
      ∙ ap (λ (k : ℕ). schedules_from schedule (first + 1) n ++ schedule k ∷ []) next)

  schedules_both : (first n m : ℕ)
      → schedules_from schedule first (n + m) ≡ schedules_from schedule first n ++ schedules_from schedule (first + n) m
  schedules_both first zero m =
      let same : 0 + m ≡ m = omega arith in
      let here : first ≡ first + 0 = omega arith in
      ap (schedules_from schedule first) same ∙ ap (λ (k : ℕ). schedules_from schedule k m) here
  schedules_both first (suc n) m =
      let sum : suc n + m ≡ suc (n + m) = omega arith in
      let next : first + 1 + n ≡ first + suc n = omega arith in
      ap (schedules_from schedule first) sum
      ∙ ap (λ rest. schedule first ∷ rest) (schedules_both (first + 1) n m
      ∙ ap (λ (k : ℕ). schedules_from schedule (first + 1) n ++ schedules_from schedule k m) next)

  schedules_count : (first n : ℕ) → length (schedules_from schedule first n) ≡ n
  schedules_count first zero = refl
  schedules_count first (suc n) = ap suc (schedules_count (first + 1) n)

  -- ---- good ones

  module _ (Good : List Event → Type 0) where
    good_more : (first number : ℕ) → AreGood Good schedule first number → Good (schedule number) → AreGood Good schedule first (number + 1)
    good_more first number before good i above below = elim (eq-or-lt_of_le {n = i} {m = number} (omega arith)) [
      | inl here ↦ subst (λ (k : ℕ). Good (schedule k)) (sym here) good
      | inr less ↦ before i above less
    ]

    good_both : (first middle end : ℕ) → AreGood Good schedule first middle → AreGood Good schedule middle end → AreGood Good schedule first end
    good_both first middle end before after i above below = elim (cases_lt i middle) [
      | inl early ↦ before i above early
      | inr late ↦ after i late below
    ]

    module _ {T : Type 0} (Counts : List (List Event) → T → Type 0) where
      pub all_none : (first : ℕ) (tally : T) → Counts [] tally → AreAllGood Good Counts schedule first first tally
      all_none first tally counted =
          let none : 0 ≡ first - first = omega arith in
          record {
            order = omega arith;
            good = λ i above below. absurd (omega arith);
            counted = subst (λ (n : ℕ). Counts (schedules_from schedule first n) tally) none counted;
          }

      pub all_more : (first number : ℕ) (old new : T) → AreAllGood Good Counts schedule first number old → Good (schedule number)
          → ((all : List (List Event)) → Counts all old → Counts (all ++ schedule number ∷ []) new)
          → AreAllGood Good Counts schedule first (number + 1) new
      all_more first number old new all good add =
          let here : first + (number - first) ≡ number = omega (arith, all.order) in
          let one : (number - first) + 1 ≡ (number + 1) - first = omega (arith, all.order) in
          record {
            order = omega (arith, all.order);
            good = good_more first number all.good good;
            counted = subst (λ (n : ℕ). Counts (schedules_from schedule first n) new) one
                (subst (λ runs. Counts runs new) (sym (schedules_more first (number - first)
                ∙ ap (λ (k : ℕ). schedules_from schedule first (number - first) ++ schedule k ∷ []) here))
                (add (schedules_from schedule first (number - first)) all.counted));
          }

      pub all_both : (first middle end : ℕ) (old later new : T) → AreAllGood Good Counts schedule first middle old
          → AreAllGood Good Counts schedule middle end later
          → ((all more : List (List Event)) → Counts all old → Counts more later → Counts (all ++ more) new) → AreAllGood Good Counts schedule first end new
      all_both first middle end old later new before after add =
          let here : first + (middle - first) ≡ middle = omega (arith, before.order) in
          let sum : (middle - first) + (end - middle) ≡ end - first = omega (arith, before.order, after.order) in
          record {
            order = omega (arith, before.order, after.order);
            good = good_both first middle end before.good after.good;
            counted = subst (λ (n : ℕ). Counts (schedules_from schedule first n) new) sum
                (subst (λ runs. Counts runs new) (sym (schedules_both first (middle - first) (end - middle)
                ∙ ap (λ (k : ℕ). schedules_from schedule first (middle - first) ++ schedules_from schedule k (end - middle)) here))
                (add (schedules_from schedule first (middle - first)) (schedules_from schedule middle (end - middle)) before.counted after.counted));
          }

      -- how many they are
      pub all_count : (first end n : ℕ) (tally : T) → AreAllGood Good Counts schedule first end tally → end ≤ first + n
          → (all : List (List Event)) × (length all ≤ n) × Counts all tally
      all_count first end n tally all few = (
        schedules_from schedule first (end - first),
        omega (arith, schedules_count first (end - first), all.order, few),
        all.counted,
      )

    -- ---- and the first one with a flaw

    module _ {F : Type 0} (Has : List Event → F → Type 0) where
      pub flawed_later : (first middle end number : ℕ) (flaw : F) → AreGood Good schedule first middle
          → IsFirstFlawed Good Has schedule middle end number flaw → IsFirstFlawed Good Has schedule first end number flaw
      flawed_later first middle end number flaw before found =
          record { within = found.within; before = good_both first middle number before found.before; has = found.has }

      pub flawed_more : (first end more number : ℕ) (flaw : F) → end ≤ more → IsFirstFlawed Good Has schedule first end number flaw
          → IsFirstFlawed Good Has schedule first more number flaw
      flawed_more first end more number flaw order found = record { within = omega (arith, found.within, order); before = found.before; has = found.has }
