use Rattle.std.proofs.Common.{◌∙◌, subst}
use Rattle.step_machine.specs.Names.{OpeningValue, at_opening, Run}
use Rattle.step_machine.proofs.Running.{opening-run}
use Rattle.sampling.proofs.trials.tally.run_anew.Goals as goal

pub returns-in-Ok : goal.returns-in-Ok
returns-in-Ok g c = λ o from.
    let went = c.in-Ok.ensures.ok (at_opening from.0.opening) (c.restart.ensures.history from.0 from.1) in
    let opens = opening-run g.row.B g.row.M (at_opening from.0.opening) c.args.events.now went.0 went.1 ∙ from.2 in
    (went.0, subst (λ (s : OpeningValue). Run g.row.B g.row.M s c.args.events.now went.0) from.2 went.1, went.2, opens)
