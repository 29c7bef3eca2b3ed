-- The answer of many runs: what all of them count to, or a short schedule with a flaw like that of the first
-- other one.
use Rattle.std.specs.Prelude.{ℕ, ◌≤◌, ◌<◌, List, length, ◌+◌, [], ◌∷◌}
use Rattle.step_machine.specs.declared.events.Event.{Event}
use Rattle.shrink.specs.Shrinking.{IsPartOf, without}
use Rattle.judged_runs.specs.Finding.{AreAllGood, IsFirstFlawed}
use Rattle.judged_runs.specs.declared.telling.Told.{Told}
use Rattle.judged_runs.specs.declared.telling.Told.TheVariants as told
use Rattle.step_machine.specs.History.{OpeningValue, History}
use Rattle.step_machine.specs.Runs.{Run}

-- it is what at most n runs count to
abbrev pub IsCounted : {T : Type 0} → (Counts : List (List Event) → T → Type 0) → (n : ℕ) → T → Type 0
IsCounted Counts n tally = (all : List (List Event)) × (length all ≤ n) × Counts all tally

-- the run of the events has a flaw that shows this one
pub record ShowsFlaw {F : Type 0} (Has : List Event → F → Type 0) (Alike : (flaw other : F) → Type 0) (flaw : F) (events : List Event) : Type 0 where
  pub other : F
  pub has : Has events other
  pub alike : Alike flaw other

-- the part is one of the given events whose run has the last flaw, which shows this one; without any one event it shows it no more
pub record IsShownFlaw {F : Type 0} (Has : List Event → F → Type 0) (Alike : (flaw other : F) → Type 0) (flaw : F) (given part : List Event) (last : F)
    : Type 0 where
  pub is_part : IsPartOf part given
  pub has : Has part last
  pub alike : Alike flaw last
  pub minimal : (i : ℕ) → i < length part → ShowsFlaw Has Alike flaw (without i 1 part) → ⊥

-- the first of these runs that has a flaw, and the part that is shown of it
pub record IsFlawTold {F : Type 0} (Good : List Event → Type 0) (Has : List Event → F → Type 0) (Alike : (flaw other : F) → Type 0)
    (schedule : ℕ → List Event) (runs : ℕ) (part : List Event) (last : F) : Type 0 where
  pub number : ℕ
  pub flaw : F
  pub is_first : IsFirstFlawed Good Has schedule 0 runs number flaw
  pub shown : IsShownFlaw Has Alike flaw (schedule number) part last

abbrev pub IsTold : {T F : Type 0} → (Good : List Event → Type 0) → (Has : List Event → F → Type 0) → (Alike : (flaw other : F) → Type 0)
    → (Counts : List (List Event) → T → Type 0) → (schedule : ℕ → List Event) → (runs : ℕ) → Told T F → Type 0
IsTold Good Has Alike Counts schedule runs (told.Good tally) = AreAllGood Good Counts schedule 0 runs tally
IsTold Good Has Alike Counts schedule runs (told.Flawed part flaw) = IsFlawTold Good Has Alike schedule runs part.items flaw

-- ---- the runs of lists of events, and sums over them

-- the runs of these lists of events from this opening, one after the other
abbrev pub AreRuns : (B M : ℕ) → OpeningValue → List (List Event) → List History → Type 0
AreRuns B M o [] [] = Unit {0}
AreRuns B M o [] (t ∷ ts) = ⊥
AreRuns B M o (events ∷ all) [] = ⊥
AreRuns B M o (events ∷ all) (t ∷ ts) = Run B M o events t × AreRuns B M o all ts

-- the sum of what there is of each
abbrev pub summed : (History → ℕ) → List History → ℕ
summed f [] = 0
summed f (t ∷ ts) = f t + summed f ts

-- what is counted at most
abbrev pub MOST : ℕ
MOST = 18446744073709551615
