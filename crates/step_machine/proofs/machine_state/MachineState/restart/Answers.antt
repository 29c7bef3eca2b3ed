-- Whatever history the machine stood at the end of, it stands at that one's opening.
use Rattle.std.proofs.Common.{refl, sym, ◌∙◌, ap, subst}
use Rattle.step_machine.specs.Positions.{AreOfOneOpening, position_of}
use Rattle.step_machine.proofs.PositionLaws.{opening_restarted, position_restarted}
use Rattle.step_machine.proofs.Restarts.{sound_put_back}
use Rattle.step_machine.proofs.machine_state.MachineState.restart.Goals as goal

pub returns-clause-history : goal.returns-clause-history
returns-clause-history g c = λ t sound. sound_put_back g.row.B g.row.M 0 t.opening t.entries _ c.args.self.now c.put_back.new.self sound refl c.put_back.ensures

pub returns-clause-position : goal.returns-clause-position
returns-clause-position g c = ap position_of c.put_back.ensures ∙ position_restarted c.args.self.now

pub returns-clause-opening : goal.returns-clause-opening
returns-clause-opening g c = subst (AreOfOneOpening c.args.self.now) (sym c.put_back.ensures) (opening_restarted c.args.self.now)
