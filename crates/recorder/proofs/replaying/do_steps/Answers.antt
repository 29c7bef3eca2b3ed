use Rattle.std.proofs.Common.{sym, ◌∙◌, true≢false}
use Rattle.recorder.proofs.RunRecords.{checked_more, differs_here}
use Rattle.recorder.proofs.replaying.do_steps.Goals as goal

pub loop-place-preserved : goal.loop-place-preserved
loop-place-preserved g c =
    checked_more g.row.B g.row.M _ c.args.steps.now c.loop-place.place _ c.loop-place.machine.history
    c.in_ok-outcome.outcome _ c.loop-place-test.true c.loop-place.invariant c.in_ok-outcome.ensures.happens
    (c.are_same_outcomes.ensures.same.0 c.if-not-are_same_outcomes.false)

pub returns-then-not-are_same_outcomes-clause-differs : goal.returns-then-not-are_same_outcomes-clause-differs
returns-then-not-are_same_outcomes-clause-differs g c =
    differs_here g.row.B g.row.M _ c.args.steps.now c.loop-place.place _ c.loop-place.machine.history
    c.in_ok-outcome.outcome _ c.loop-place-test.true c.loop-place.invariant c.in_ok-outcome.ensures.happens
    (λ same. true≢false (sym (c.are_same_outcomes.ensures.same.1 same) ∙ c.if-not-are_same_outcomes.true))
