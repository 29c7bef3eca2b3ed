use Rattle.callers.proofs.Noting.{act_noted}
use Rattle.callers.proofs.judging.note_act.Goals as goal

-- src/judging.rt:261:1
pub returns-in-Did-clause-noted : goal.returns-in-Did-clause-noted
returns-in-Did-clause-noted g c =
    let happens = rw c.in-Did.is at c.in_ok-entry.ensures.happens in
    act_noted g.row.B g.row.M c.args.located c.args.machine.now.history c.step.new.self.history c.args.hart c.in-Did.entry c.args.notes
    c.note_entry.result c.call_state-after.ensures.0 c.state_before-before.result c.call_state-after.result happens c.state_before-before.ensures
    c.call_state-after.ensures.1
    c.call_state-after.ensures.2 c.note_entry.ensures
