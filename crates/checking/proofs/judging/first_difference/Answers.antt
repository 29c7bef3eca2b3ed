use Rattle.std.proofs.Common.{List, refl, sym, ◌∙◌, subst, true≢false}
use Rattle.std.proofs.lemmas.List.{take_all}
use Rattle.recorder.specs.{Step, RecordFrom}
use Rattle.step_machine.specs.Names.{OpeningValue, at_opening, RepresentsHistory}
use Rattle.step_machine.proofs.Running.{opening-happens}
use Rattle.recorder.proofs.RunRecords.{checked_more}
use Rattle.checking.proofs.Differences.{differing_here}
use Rattle.checking.proofs.judging.first_difference.Goals as goal

pub loop-place-init : goal.loop-place-init
loop-place-init g c = λ o from. (
  at_opening o,
  refl,
  subst (λ (s : OpeningValue). RepresentsHistory g.row.B g.row.M (at_opening s) c.restart.new.self) from.2
      (c.restart.ensures.history from.0 from.1),
  refl,
)

pub loop-place-preserved : goal.loop-place-preserved
loop-place-preserved g c = λ o from.
    let so_far = c.loop-place.invariant o from in
    let moved = c.in_ok-found.ensures.ok so_far.0 so_far.2 in (
      moved.0,
      checked_more g.row.B g.row.M (at_opening o) c.args.steps.now c.loop-place.place _ so_far.0 c.in_ok-found.found moved.0
          c.loop-place-test.true so_far.1 moved.1 (c.are_same_outcomes.ensures.same.0 c.if-not-are_same_outcomes.false),
      moved.2,
      opening-happens g.row.B g.row.M so_far.0 _ c.in_ok-found.found moved.0 moved.1 ∙ so_far.3,
    )

pub returns-then-not-are_same_outcomes-clause-follows : goal.returns-then-not-are_same_outcomes-clause-follows
returns-then-not-are_same_outcomes-clause-follows g c = λ o from.
    let so_far = c.loop-place.invariant o from in
    let moved = c.in_ok-found.ensures.ok so_far.0 so_far.2 in
    let here = differing_here g.row.B g.row.M o c.args.steps.now c.loop-place.place _ so_far.0 c.in_ok-found.found moved.0
    c.loop-place-test.true so_far.1 moved.1 (λ same. true≢false (sym (c.are_same_outcomes.ensures.same.1 same) ∙ c.if-not-are_same_outcomes.true)) in
    (here.0, here.1, (moved.0, moved.2, opening-happens g.row.B g.row.M so_far.0 _ c.in_ok-found.found moved.0 moved.1 ∙ so_far.3))

pub returns-clause-follows : goal.returns-clause-follows
returns-clause-follows g c = λ o from.
    let so_far = c.loop-place.invariant o from in (
      so_far.0,
      subst (λ (front : List Step). RecordFrom g.row.B g.row.M (at_opening o) front so_far.0)
          (take_all c.loop-place.place c.args.steps.now c.loop-place-test.false) so_far.1,
      so_far.2,
      so_far.3,
    )
