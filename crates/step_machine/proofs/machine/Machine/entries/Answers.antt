use Rattle.step_machine.proofs.OwnRuns.{own_run_seen}
use Rattle.step_machine.proofs.machine.Machine.entries.Goals as goal

pub returns-clause-own : goal.returns-clause-own
returns-clause-own g c = own_run_seen g.row.B g.row.M _ _ _ c.self.inside.machine_state _ c.self.invariant.0 c.self.view_is
