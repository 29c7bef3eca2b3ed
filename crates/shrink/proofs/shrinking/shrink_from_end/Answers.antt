use Rattle.std.proofs.Common.{subst, sym}
use Rattle.step_machine.specs.Names.{OpeningValue, Run}
use Rattle.shrink.proofs.EndLaws.{shrunk_of_run}
use Rattle.shrink.proofs.shrinking.shrink_from_end.Goals as goal

pub returns-clause-shrunk : goal.returns-clause-shrunk
returns-clause-shrunk g c given run =
    let own = rw c.entries.ensures.value at c.in_ok-left.ensures in
    let ran = subst (λ (o : OpeningValue). Run g.row.B g.row.M o given c.args.machine.now.history) (sym c.requires.opening) run in
    let last = rw c.deref.ensures.value at c.leave_out.ensures.holds in
    let minimal = rw c.deref.ensures.value at c.in_ok-leave_out.ensures.minimal in
    shrunk_of_run g.row.B g.row.M c.args.test.now c.args.machine.now.history.opening given c.in_ok-left.left.items
    c.leave_out.new.events.items c.args.machine.now.history
    c.in_ok-last.last.items c.requires.opening
    ran
    (c.is_finished.ensures.0 cc) (c.in_ok-last.ensures c.args.machine.now.history c.machine_state.ensures.stands) own
    c.leave_out.ensures.part last minimal
