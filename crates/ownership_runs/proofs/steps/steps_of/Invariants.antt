use Rattle.std.proofs.Common.{◌≡◌, take}
use Rattle.step_machine.specs.History.{at_opening}
use Rattle.ownership_runs.specs.Steps.{AreStepsFrom}
use Rattle.ownership_runs.proofs.steps.steps_of.Given as goal

abbrev pub invariant-loop-event : goal.invariant-loop-event
invariant-loop-event g l = record {
  opening : l.machine.history.opening ≡ l.fn.opening;
  from : AreStepsFrom g.row.B g.row.M (at_opening l.fn.opening) (take l.event-index l.events) l.steps.items l.machine.history;
}
