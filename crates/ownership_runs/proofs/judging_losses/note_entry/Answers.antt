use Rattle.std.proofs.Common.{List, sym, subst}
use Rattle.step_machine.specs.declared.events.Entry.{Entry}
use Rattle.ownership_runs.specs.inner.LossNoting.{AreLossNotes}
use Rattle.ownership_runs.proofs.LossSteps.{still-lost}
use Rattle.ownership_runs.proofs.judging_losses.note_entry.Goals as goal

pub returns-in-Some-clause-noted : goal.returns-in-Some-clause-noted
returns-in-Some-clause-noted g c start es is seen are =
    subst
    (λ (fs : List Entry). AreLossNotes c.args.since g.row.M c.args.queue.now c.args.machine.now.history.opening
    start fs c.args.log.now.items c.args.notes) (sym is)
    (still-lost c.args.since g.row.M c.args.queue.now c.requires.some_slot c.args.machine.now.history.opening start es c.args.entry c.in-Some.field-0
    c.args.log.now.items c.args.log.now.items c.args.notes c.in-Some.is are)
