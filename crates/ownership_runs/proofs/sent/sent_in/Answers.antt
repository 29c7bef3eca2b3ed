use Rattle.std.proofs.Common.{None, sym, ◌∙◌}
use Rattle.ownership_runs.proofs.Logs.{found-last}
use Rattle.ownership_runs.proofs.sent.sent_in.Goals as goal

pub returns-in-Some : goal.returns-in-Some
returns-in-Some c = sym c.in-Some.is ∙ found-last c.args.first c.args.later.now c.args.position c.loop-place.place (record { from = 0; byte = None })
    c.loop-place-test.true c.loop-place.auto.place c.loop-place.invariant c.if-sent-position.true

pub returns-in-None : goal.returns-in-None
returns-in-None c = sym c.in-None.is ∙ found-last c.args.first c.args.later.now c.args.position c.loop-place.place (record { from = 0; byte = None })
    c.loop-place-test.true c.loop-place.auto.place c.loop-place.invariant c.if-sent-position.true
