-- Runs of two lists of lists of events together, and that there is one run of each.
use Rattle.std.proofs.Common.{ℕ, suc, ◌≡◌, ◌+◌, min, List, [], ◌∷◌, ◌++◌, length, refl, ap, ap₂, arith}
use Rattle.step_machine.specs.declared.events.Event.{Event}
use Rattle.step_machine.specs.History.{OpeningValue, History, at_opening}
use Rattle.step_machine.proofs.Running.{run-one}
use Rattle.judged_runs.specs.Telling.{AreRuns, MOST, summed}

module _ (B M : ℕ) (o : OpeningValue) where
  pub runs_both : (all more : List (List Event)) (ts us : List History) → AreRuns B M o all ts → AreRuns B M o more us → AreRuns B M o (all ++ more) (ts ++ us)
  runs_both [] more [] us runs next = next
  runs_both [] more (t ∷ ts) us runs next = absurd runs
  runs_both (events ∷ all) more [] us runs next = absurd runs
  runs_both (events ∷ all) more (t ∷ ts) us runs next = (runs.0, runs_both all more ts us runs.1 next)

  pub runs_count : (all : List (List Event)) (ts : List History) → AreRuns B M o all ts → length ts ≡ length all
  runs_count [] [] runs = refl
  runs_count [] (t ∷ ts) runs = absurd runs
  runs_count (events ∷ all) [] runs = absurd runs
  runs_count (events ∷ all) (t ∷ ts) runs = ap suc (runs_count all ts runs.1)

  pub runs_one : (all : List (List Event)) (ts us : List History) → AreRuns B M o all ts → AreRuns B M o all us → ts ≡ us
  runs_one [] [] [] runs others = refl
  runs_one [] [] (u ∷ us) runs others = absurd others
  runs_one [] (t ∷ ts) us runs others = absurd runs
  runs_one (events ∷ all) [] us runs others = absurd runs
  runs_one (events ∷ all) (t ∷ ts) [] runs others = absurd others
  runs_one (events ∷ all) (t ∷ ts) (u ∷ us) runs others =
      ap₂ (λ (x : History) (xs : List History). x ∷ xs) (run-one B M (at_opening o) events t u runs.0 others.0) (runs_one all ts us runs.1 others.1)

pub total_both : (f : History → ℕ) (ts us : List History) → summed f (ts ++ us) ≡ summed f ts + summed f us
total_both f [] us = omega arith
total_both f (t ∷ ts) us = omega (arith, total_both f ts us)

pub capped_both : (a b x y : ℕ) → a ≡ min x MOST → b ≡ min y MOST → min (a + b) MOST ≡ min (x + y) MOST
capped_both a b x y one other = omega (arith, one, other)
