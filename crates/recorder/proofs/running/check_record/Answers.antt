use Rattle.std.proofs.Common.{sym, ◌∙◌, true≢false}
use Rattle.recorder.proofs.RunRecords.{checked_more, differs_here}
use Rattle.recorder.proofs.running.check_record.Goals as goal

pub loop-place-preserved : goal.loop-place-preserved
loop-place-preserved g c =
    let so_far = c.loop-place.invariant in
    let moved = c.in_ok-outcome.ensures.ok so_far.0 so_far.2 in (
      moved.0,
      checked_more g.row.B g.row.M _ c.args.steps.now c.loop-place.place _ so_far.0 c.in_ok-outcome.outcome moved.0
          c.loop-place-test.true so_far.1 moved.1 (c.are_same_outcomes.ensures.same.0 c.if-not-are_same_outcomes.false),
      moved.2,
    )

pub returns-then-not-are_same_outcomes-clause-differs : goal.returns-then-not-are_same_outcomes-clause-differs
returns-then-not-are_same_outcomes-clause-differs g c =
    let so_far = c.loop-place.invariant in
    let moved = c.in_ok-outcome.ensures.ok so_far.0 so_far.2 in
    differs_here g.row.B g.row.M c.args.opening.now c.args.steps.now c.loop-place.place _ so_far.0 c.in_ok-outcome.outcome moved.0
    c.loop-place-test.true so_far.1 moved.1 (λ same. true≢false (sym (c.are_same_outcomes.ensures.same.1 same) ∙ c.if-not-are_same_outcomes.true))
