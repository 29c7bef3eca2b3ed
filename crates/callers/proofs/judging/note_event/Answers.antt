use Rattle.std.proofs.Common.{subst, sym}
use Rattle.step_machine.specs.declared.events.Event.{Event}
use Rattle.step_machine.specs.Runs.{Happens}
use Rattle.callers.specs.inner.{IsEventNoted}
use Rattle.callers.proofs.Noting.{land_noted}
use Rattle.callers.proofs.judging.note_event.Goals as goal

-- src/judging.rt:284:1
pub returns-in_ok-step-in-Land-clause-noted : goal.returns-in_ok-step-in-Land-clause-noted
returns-in_ok-step-in-Land-clause-noted g c =
    subst (λ (ev : Event). IsEventNoted g.row.B g.row.M c.args.located ev c.args.machine.now.history c.args.notes c.step.new.self.history c.args.notes)
    (sym c.in-Land.is)
    (land_noted g.row.B g.row.M c.args.located c.args.machine.now.history c.step.new.self.history c.in-Land.field-0 c.in_ok-step-in-Land.field-0 c.args.notes
    (subst (λ (ev : Event). Happens g.row.B g.row.M c.args.machine.now.history ev c.in_ok-step-in-Land.field-0 c.step.new.self.history)
    c.in-Land.is c.in_ok-step-in-Land.ensures.happens))
