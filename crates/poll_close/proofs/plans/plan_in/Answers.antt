use Rattle.std.proofs.Common.{◌≡◌, true, false, [], ◌∷◌, ◌++◌, lit<, sym, ◌∙◌, ap, subst, arith}
use Rattle.step_machine.specs.declared.events.Event.TheVariants as event
use Rattle.poll_close.specs.{rank_of, next_by, is_done}
use Rattle.poll_close.proofs.Planning.{Planned, planned-none, planned-more, planned-done, lands_one, turned, turn_over, turn_quiet, some_left, none_left}
use Rattle.poll_close.proofs.Planning.{landed_more}
use Rattle.poll_close.proofs.plans.plan_in.Goals as goal

pub is_finished-requires-in-loop-machine-2 : goal.is_finished-requires-in-loop-machine-2
is_finished-requires-in-loop-machine-2 g c = (lit< tt, c.loop-machine-2.invariant.0.stands)

pub loop-machine-smaller : goal.loop-machine-smaller
loop-machine-smaller g c =
    let p = c.loop-machine.invariant.0 in
    (lands_one g.row.B g.row.M c.loop-machine.machine.history c.loop-hart.hart c.in_ok-step.field-0
    c.step.new.self.history p.stands.kept (omega (arith, p.harts, c.harts-hart-end.ensures, c.loop-hart-test.true))
    (some_left c.pending.ensures c.is_empty.ensures c.loop-machine-test.true) c.in_ok-step.ensures.happens).fewer

pub loop-machine-preserved : goal.loop-machine-preserved
loop-machine-preserved g c =
    let p = c.loop-machine.invariant.0 in
    let less = lands_one g.row.B g.row.M c.loop-machine.machine.history c.loop-hart.hart c.in_ok-step.field-0
    c.step.new.self.history p.stands.kept (omega (arith, p.harts, c.harts-hart-end.ensures, c.loop-hart-test.true))
    (some_left c.pending.ensures c.is_empty.ensures c.loop-machine-test.true) c.in_ok-step.ensures.happens in (
      subst (λ evs. Planned g.K.RingKind.ring g.K.RingKind.meaning g.row.B g.row.M c.args.machine.now.history evs
          c.step.new.self.history) (sym c.in_ok-push.ensures.items)
          (planned-more _ c.in_ok-step.field-0 c.step.new.self.history c.laws.ensures.keeps p c.in_ok-step.ensures.happens),
      λ k below. less.others k (omega arith) ∙ c.loop-machine.invariant.1 k below,
    )

pub loop-hart-preserved : goal.loop-hart-preserved
loop-hart-preserved g c = (
  c.loop-machine.invariant.0,
  landed_more c.loop-machine.machine.history.entries c.loop-hart.hart c.loop-machine.invariant.1
      (none_left c.pending.ensures c.is_empty.ensures c.loop-machine-test.false),
)

pub pending-requires-in-loop-machine-2 : goal.pending-requires-in-loop-machine-2
pending-requires-in-loop-machine-2 g c =
    let turn = turned (rank_of g.K.Finish.ranking) (next_by g.K.Finish.ranking) c.next_hart-next.result c.in_ok-step-2.field-0
    c.step-in-loop-machine-2.new.self.history c.ranking_decreases.ensures c.laws.ensures.keeps c.requires.some_capacity
    c.loop-machine-2.invariant.0 c.loop-machine-2.invariant.1
    (sym c.is_finished-in-loop-machine-2.ensures ∙ c.loop-machine-2-test.true) c.next_hart-next.ensures c.in_ok-step-2.ensures.happens in
    (lit< tt, turn.hart)

pub loop-machine-2-smaller-in-Continue-branch-6 : goal.loop-machine-2-smaller-in-Continue-branch-6
loop-machine-2-smaller-in-Continue-branch-6 g c =
    let turn = turned (rank_of g.K.Finish.ranking) (next_by g.K.Finish.ranking) c.next_hart-next.result c.in_ok-step-2.field-0
    c.step-in-loop-machine-2.new.self.history c.ranking_decreases.ensures c.laws.ensures.keeps c.requires.some_capacity
    c.loop-machine-2.invariant.0 c.loop-machine-2.invariant.1
    (sym c.is_finished-in-loop-machine-2.ensures ∙ c.loop-machine-2-test.true) c.next_hart-next.ensures c.in_ok-step-2.ensures.happens in
    let over = turn_over c.in_ok-step-3.field-0 c.step-then-not-is_empty.new.self.history c.laws.ensures.keeps c.loop-machine-2.invariant.1 turn
    (some_left c.pending-in-loop-machine-2.ensures c.is_empty-in-loop-machine-2.ensures c.if-not-is_empty.true)
    c.in_ok-step-3.ensures.happens in
    over.less

pub loop-machine-2-preserved-in-Continue-branch-6 : goal.loop-machine-2-preserved-in-Continue-branch-6
loop-machine-2-preserved-in-Continue-branch-6 g c =
    let turn = turned (rank_of g.K.Finish.ranking) (next_by g.K.Finish.ranking) c.next_hart-next.result c.in_ok-step-2.field-0
    c.step-in-loop-machine-2.new.self.history c.ranking_decreases.ensures c.laws.ensures.keeps c.requires.some_capacity
    c.loop-machine-2.invariant.0 c.loop-machine-2.invariant.1
    (sym c.is_finished-in-loop-machine-2.ensures ∙ c.loop-machine-2-test.true) c.next_hart-next.ensures c.in_ok-step-2.ensures.happens in
    let over = turn_over c.in_ok-step-3.field-0 c.step-then-not-is_empty.new.self.history c.laws.ensures.keeps c.loop-machine-2.invariant.1 turn
    (some_left c.pending-in-loop-machine-2.ensures c.is_empty-in-loop-machine-2.ensures c.if-not-is_empty.true)
    c.in_ok-step-3.ensures.happens in (
      subst (λ evs. Planned g.K.RingKind.ring g.K.RingKind.meaning g.row.B g.row.M c.args.machine.now.history evs
          c.step-then-not-is_empty.new.self.history)
          (sym (c.in_ok-push-3.ensures.items
          ∙ ap (λ evs. evs ++ event.Land c.next_hart-next.result ∷ []) c.in_ok-push-2.ensures.items)) over.planned,
      over.all,
    )

pub loop-machine-2-smaller : goal.loop-machine-2-smaller
loop-machine-2-smaller g c =
    let turn = turned (rank_of g.K.Finish.ranking) (next_by g.K.Finish.ranking) c.next_hart-next.result c.in_ok-step-2.field-0
    c.step-in-loop-machine-2.new.self.history c.ranking_decreases.ensures c.laws.ensures.keeps c.requires.some_capacity
    c.loop-machine-2.invariant.0 c.loop-machine-2.invariant.1
    (sym c.is_finished-in-loop-machine-2.ensures ∙ c.loop-machine-2-test.true) c.next_hart-next.ensures c.in_ok-step-2.ensures.happens in
    turn.stepped.less

pub loop-machine-2-preserved : goal.loop-machine-2-preserved
loop-machine-2-preserved g c =
    let turn = turned (rank_of g.K.Finish.ranking) (next_by g.K.Finish.ranking) c.next_hart-next.result c.in_ok-step-2.field-0
    c.step-in-loop-machine-2.new.self.history c.ranking_decreases.ensures c.laws.ensures.keeps c.requires.some_capacity
    c.loop-machine-2.invariant.0 c.loop-machine-2.invariant.1
    (sym c.is_finished-in-loop-machine-2.ensures ∙ c.loop-machine-2-test.true) c.next_hart-next.ensures c.in_ok-step-2.ensures.happens in
    let over = turn_quiet c.loop-machine-2.invariant.1 turn
    (none_left c.pending-in-loop-machine-2.ensures c.is_empty-in-loop-machine-2.ensures c.if-not-is_empty.false) in (
      subst (λ evs. Planned g.K.RingKind.ring g.K.RingKind.meaning g.row.B g.row.M c.args.machine.now.history evs
          c.step-in-loop-machine-2.new.self.history) (sym c.in_ok-push-2.ensures.items) over.planned,
      over.all,
    )

pub returns-then-is_finished-clause-finishes : goal.returns-then-is_finished-clause-finishes
returns-then-is_finished-clause-finishes g c = planned-done c.laws.ensures.cleans
    (subst (λ evs.
    Planned g.K.RingKind.ring g.K.RingKind.meaning g.row.B g.row.M c.args.machine.now.history evs c.args.machine.now.history)
    (sym c.new-plan.ensures.items)
    (planned-none c.requires.stands))
    (sym c.is_finished.ensures ∙ c.if-is_finished.true)

pub returns : goal.returns
returns g c = record {
  finishes = planned-done c.laws.ensures.cleans c.loop-machine-2.invariant.0
      (let done : is_done c.loop-machine-2.machine.history ≡ true = cc in done);
  none = λ done. (let bad : true ≡ false = sym done ∙ sym c.is_finished.ensures ∙ c.if-is_finished.false in cc);
  ran = c.loop-machine-2.invariant.0.run;
  stands = c.loop-machine-2.invariant.0.stands;
}
