use Rattle.step_machine.proofs.OwnRuns.{own_run_seen}
use Rattle.step_machine.proofs.machine.Machine.trace.Goals as goal

pub returns-in_err-opening-clause-own : goal.returns-in_err-opening-clause-own
returns-in_err-opening-clause-own g c = own_run_seen g.row.B g.row.M _ _ _ c.self.inside.machine_state _ c.self.invariant.0 c.self.view_is

pub returns-in_err-entries-clause-own : goal.returns-in_err-entries-clause-own
returns-in_err-entries-clause-own g c = own_run_seen g.row.B g.row.M _ _ _ c.self.inside.machine_state _ c.self.invariant.0 c.self.view_is

pub returns-clause-own : goal.returns-clause-own
returns-clause-own g c = own_run_seen g.row.B g.row.M _ _ _ c.self.inside.machine_state _ c.self.invariant.0 c.self.view_is
