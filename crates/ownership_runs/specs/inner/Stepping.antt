-- What an event adds to the steps of a run.
use Rattle.std.specs.Prelude.{ℕ, ◌≡◌, List, ◌++◌}
use Rattle.step_machine.specs.declared.events.Event.{Event}
use Rattle.step_machine.specs.declared.events.Outcome.{Outcome}
use Rattle.step_machine.specs.History.{History}
use Rattle.step_machine.specs.Runs.{Happens}
use Rattle.ownership_runs.specs.declared.steps.Step.{Step}
use Rattle.ownership_runs.specs.Steps.{IsStepOf}

-- an event made a history of this one, and these steps of those
pub record IsStepped (B M : ℕ) (ev : Event) (t : History) (steps : List Step) (u : History) (new : List Step) : Type 0 where
  pub outcome : Outcome
  pub happens : Happens B M t ev outcome u
  pub first : List Step
  pub did : IsStepOf M t outcome first
  pub new_are : new ≡ steps ++ first
