-- What drawn runs of a text lose of a queue: a load by which its receiver finds another byte than was sent.
use Rattle.std.specs.Prelude.{ℕ, Bool, List, Option, Some, None}
use Rattle.step_machine.specs.declared.events.Event.{Event}
use Rattle.step_machine.specs.History.{OpeningValue}
use Rattle.queue_parties.specs.Parties.{all_at}
use Rattle.queue_certificates.specs.Certificates.{QueueCertificate}
use Rattle.drawn_runs.specs.Samples.{DrawnRuns}
use Rattle.judged_runs.specs.Finding.{AreGood}
use Rattle.judged_runs.specs.Telling.{IsFlawTold, IsTold}
use Rattle.judged_runs.specs.declared.telling.Told.{Told}
use Rattle.ownership_runs.specs.declared.losses.Loss.{Loss}
use Rattle.ownership_runs.specs.declared.steps.Step.{Step}
use Rattle.ownership_runs.specs.Ends.{EndsInLoss}
use Rattle.ownership_runs.specs.Steps.{AreSteps}
use Rattle.ownership_runs.specs.Runs.{LosesNothing, HasLoss, IsLossOfOneKind, CountsNothing}
use Rattle.certifying.specs.Queues.{any_queue, any_start}
use Rattle.certifying.specs.Trials.{trial_schedule}
use Rattle.certifying.specs.declared.lost.Lost.{Lost}

-- of queue i, which opens empty, no run loses a record, or none after a first violation that is described
abbrev pub NoneLost : DrawnRuns → OpeningValue → QueueCertificate → (i : ℕ) → (broken : Bool) → Type 0
NoneLost d o c i broken = AreGood (LosesNothing d.B d.M o (any_queue c i) (all_at (any_start c i)) broken) (trial_schedule d o) 0 d.number

-- what is stated of all runs
abbrev pub IsLossToldOf : DrawnRuns → OpeningValue → QueueCertificate → (i : ℕ) → (broken : Bool) → Told (Unit {0}) Loss → Type 0
IsLossToldOf d o c i broken told = IsTold (LosesNothing d.B d.M o (any_queue c i) (all_at (any_start c i)) broken)
    (HasLoss d.B d.M o (any_queue c i) (all_at (any_start c i)) broken) IsLossOfOneKind (λ all nothing. CountsNothing) (trial_schedule d o) d.number told

-- this is a part of the events of the first run that loses one so, with no event to spare, whose own run has this first loss
abbrev pub IsLostBy : DrawnRuns → OpeningValue → QueueCertificate → (i : ℕ) → (broken : Bool) → (part : List Event) → Loss → Type 0
IsLostBy d o c i broken part loss = IsFlawTold (LosesNothing d.B d.M o (any_queue c i) (all_at (any_start c i)) broken)
    (HasLoss d.B d.M o (any_queue c i) (all_at (any_start c i)) broken) IsLossOfOneKind (trial_schedule d o) d.number part loss

-- and the last of these events, which do this, is the load
pub record IsRecordLost (d : DrawnRuns) (o : OpeningValue) (c : QueueCertificate) (i : ℕ) (broken : Bool) (part : List Event) (loss : Loss)
    (steps : List Step) : Type 0 where
  pub told : IsLostBy d o c i broken part loss
  pub ends : EndsInLoss d.B d.M o (any_queue c i) (all_at (any_start c i)) broken part loss
  pub are_steps : AreSteps d.B d.M o part steps

abbrev pub IsLostOf : DrawnRuns → OpeningValue → QueueCertificate → (i : ℕ) → (broken : Bool) → Option Lost → Type 0
IsLostOf d o c i broken None = NoneLost d o c i broken
IsLostOf d o c i broken (Some lost) = IsRecordLost d o c i broken lost.part.items lost.loss lost.steps.items
