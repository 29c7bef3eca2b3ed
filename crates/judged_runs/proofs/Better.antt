-- Runs that are good in two ways.
use Rattle.std.proofs.Common.{ℕ, List}
use Rattle.step_machine.specs.declared.events.Event.{Event}
use Rattle.judged_runs.specs.Telling.{IsTold}
use Rattle.judged_runs.specs.declared.telling.Told.{Told}
use Rattle.judged_runs.specs.declared.telling.Told.TheVariants as told

-- what is told of runs, where each run that is Good is Better too
pub told_better : {T F : Type 0} (Good Better : List Event → Type 0) (Has : List Event → F → Type 0) (Alike : F → F → Type 0)
    (Counts : List (List Event) → T → Type 0) (schedule : ℕ → List Event) (runs : ℕ) → ((events : List Event) → Good events → Better events)
    → (told : Told T F) → IsTold Good Has Alike Counts schedule runs told → IsTold Better Has Alike Counts schedule runs told
told_better Good Better Has Alike Counts schedule runs better (told.Good tally) is = record {
  order = is.order;
  good = λ i above below. better (schedule i) (is.good i above below);
  counted = is.counted;
}
told_better Good Better Has Alike Counts schedule runs better (told.Flawed part flaw) is = record {
  number = is.number;
  flaw = is.flaw;
  is_first = record {
    within = is.is_first.within;
    before = λ i above below. better (schedule i) (is.is_first.before i above below);
    has = is.is_first.has;
  };
  shown = is.shown;
}
