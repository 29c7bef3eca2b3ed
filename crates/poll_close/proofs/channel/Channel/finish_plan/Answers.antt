-- The plan starts from the second machine's history, which is this one's.
use Rattle.std.proofs.Common.{◌∙◌, ap, subst, IfOk}
use Rattle.step_machine.specs.History.{History, HistoryWithRoom}
use Rattle.poll_close.specs.Plans.{Finishes}
use Rattle.poll_close.proofs.channel.Channel.finish_plan.Goals as goal

pub returns-clause-finishes : goal.returns-clause-finishes
returns-clause-finishes g c =
    subst (λ (h : History). IfOk c.plan_of.result (λ plan. Finishes g.row.B g.row.M h plan.items))
    (c.in_ok-machine.ensures ∙ ap (λ (p : HistoryWithRoom). p.history) c.self.view_is) c.plan_of.ensures.finishes
