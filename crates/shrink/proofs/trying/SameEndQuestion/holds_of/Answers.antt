use Rattle.shrink.proofs.EndLaws.{ends_by_values}
use Rattle.shrink.proofs.trying.SameEndQuestion.holds_of.Goals as goal

pub returns-clause-holds : goal.returns-clause-holds
returns-clause-holds g c =
    let finished = c.is_finished.ensures.0 (cc) in
    let agree = rw c.deref.ensures.value at c.are_same.ensures in
    ends_by_values g.row.B g.row.M c.args.self.now.test.now c.args.machine.now.history.opening c.args.events.now
    c.run_again.new.machine.history c.args.self.now.last.now c.in_ok-values.values.items c.are_same.result c.requires.0
    c.in_ok-run_again.ensures.run
    (c.laws_of_runs.ensures.one g.row.B g.row.M c.args.machine.now.history.opening c.args.events.now
    c.run_again.new.machine.history) finished
    (c.in_ok-values.ensures c.run_again.new.machine.history c.machine_state.ensures.stands) agree
