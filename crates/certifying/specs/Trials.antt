-- Drawn runs of a text whose certificate isn't accepted, judged by the protocol of each of its queues.
use Rattle.std.specs.Prelude.{ℕ, ◌≡◌, ◌+◌, ◌<◌, List, [], ◌∷◌, length}
use Rattle.step_machine.specs.declared.events.Event.{Event}
use Rattle.step_machine.specs.History.{OpeningValue}
use Rattle.queue_parties.specs.Parties.{all_at}
use Rattle.queue_certificates.specs.Certificates.{QueueCertificate}
use Rattle.drawn_runs.specs.Samples.{DrawnRuns, schedule_in}
use Rattle.judged_runs.specs.Finding.{AreAllGood}
use Rattle.judged_runs.specs.Telling.{IsFlawTold, IsTold}
use Rattle.judged_runs.specs.declared.telling.Told.{Told}
use Rattle.ownership_runs.specs.declared.violations.Violation.{Violation}
use Rattle.ownership_runs.specs.declared.runs.Moved.{Moved}
use Rattle.ownership_runs.specs.declared.steps.Step.{Step}
use Rattle.ownership_runs.specs.Ends.{EndsInViolation}
use Rattle.ownership_runs.specs.Steps.{AreSteps}
use Rattle.ownership_runs.specs.Runs.{HasKeptRun, HasBrokenRun, IsOfOneKind, AreMovesOf}
use Rattle.certifying.specs.Queues.{any_queue, any_start, queue_count}
use Rattle.certifying.specs.declared.trials.Trial.{Trial}
use Rattle.certifying.specs.declared.trials.Trial.TheVariants.{Kept, Broken}

abbrev pub trial_schedule : DrawnRuns → OpeningValue → ℕ → List Event
trial_schedule d o = schedule_in d (length o.harts)

-- ---- of one queue, which opens empty

module _ (d : DrawnRuns) (o : OpeningValue) (c : QueueCertificate) (i : ℕ) where
  -- what is stated of all runs
  abbrev pub IsToldOf : Told Moved Violation → Type 0
  IsToldOf told = IsTold (HasKeptRun d.B d.M o (any_queue c i) (all_at (any_start c i))) (HasBrokenRun d.B d.M o (any_queue c i) (all_at (any_start c i)))
      IsOfOneKind (AreMovesOf d.B d.M o (any_queue c i) (all_at (any_start c i))) (trial_schedule d o) d.number told

  -- all keep the protocol, and the parties moved on by this much in them
  abbrev pub AllKeep : Moved → Type 0
  AllKeep moved = AreAllGood (HasKeptRun d.B d.M o (any_queue c i) (all_at (any_start c i))) (AreMovesOf d.B d.M o (any_queue c i) (all_at (any_start c i)))
      (trial_schedule d o) 0 d.number moved

  -- this is a part of the events of the first run that breaks it, with no event to spare, whose own run has this first violation
  abbrev pub IsBrokenBy : (part : List Event) → Violation → Type 0
  IsBrokenBy part violation = IsFlawTold (HasKeptRun d.B d.M o (any_queue c i) (all_at (any_start c i)))
      (HasBrokenRun d.B d.M o (any_queue c i) (all_at (any_start c i))) IsOfOneKind (trial_schedule d o) d.number part violation

  -- the last of these events makes the violation
  abbrev pub EndsBroken : (part : List Event) → Violation → Type 0
  EndsBroken part violation = EndsInViolation d.B d.M o (any_queue c i) (all_at (any_start c i)) part violation

-- ---- of all queues

-- from queue i on, one queue for each of these numbers
abbrev pub QueuesKeep : DrawnRuns → OpeningValue → QueueCertificate → (i : ℕ) → List Moved → Type 0
QueuesKeep d o c i [] = Unit {0}
QueuesKeep d o c i (moved ∷ more) = AllKeep d o c i moved × QueuesKeep d o c (i + 1) more

-- the first queue whose protocol a run breaks, as the last of these events shows, and what these do
pub record IsFirstBroken (d : DrawnRuns) (o : OpeningValue) (c : QueueCertificate) (queue : ℕ) (part : List Event)
    (violation : Violation) (steps : List Step) : Type 0 where
  pub inside : queue < queue_count c
  pub moved : List Moved
  pub earlier : length moved ≡ queue
  pub kept : QueuesKeep d o c 0 moved
  pub told : IsBrokenBy d o c queue part violation
  pub ends : EndsBroken d o c queue part violation
  pub are_steps : AreSteps d.B d.M o part steps

abbrev pub IsOfTrial : DrawnRuns → OpeningValue → QueueCertificate → Trial → Type 0
IsOfTrial d o c (Kept moved) = (length moved.items ≡ queue_count c) × QueuesKeep d o c 0 moved.items
IsOfTrial d o c (Broken queue part violation steps) = IsFirstBroken d o c queue part.items violation steps.items

-- it has this queue, part and violation, and what the part does
abbrev pub IsTrialBroken : (B M : ℕ) → OpeningValue → (queue : ℕ) → (part : List Event) → Violation → Trial → Type 0
IsTrialBroken B M o queue part violation (Kept moved) = ⊥
IsTrialBroken B M o queue part violation (Broken of_queue of_part of_violation steps) =
    (of_queue ≡ queue) × (of_part.items ≡ part) × (of_violation ≡ violation) × AreSteps B M o part steps.items
