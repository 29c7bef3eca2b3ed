-- The second machine ran the events of the first one's entries, and so has its history.
use Rattle.std.proofs.Common.{◌∙◌, ap, subst, map}
use Rattle.step_machine.specs.Names.{History, RunFrom, event_of}
use Rattle.poll_close.proofs.Planning.{same_run}
use Rattle.poll_close.proofs.channel.run_again.Goals as goal

pub returns-in-Ok : goal.returns-in-Ok
returns-in-Ok g c = same_run g.row.B g.row.M c.args.machine.now.history c.run.new.self.history c.in_ok-copy.field-0
    c.deref.result.now c.entries.ensures.own (c.in_ok-copy.ensures ∙ c.opening.ensures.value)
    (c.deref.ensures.value ∙ c.in_ok-events.ensures ∙ ap (map event_of) c.entries.ensures.value)
    (subst (λ (u : History). RunFrom g.row.B g.row.M u c.deref.result.now c.run.new.self.history) c.in_ok-second.ensures
    c.in-Ok.ensures.ok)
