use Rattle.std.proofs.Common.{List, sym, subst, ◌∙◌, take, ◌+◌}
use Rattle.step_machine.specs.History.{at_opening}
use Rattle.ownership_runs.specs.{AreStepsFrom, Step}
use Rattle.ownership_runs.proofs.Stepping.{next-steps}
use Rattle.ownership_runs.proofs.steps.steps_of.Goals as goal

pub loop-event-preserved : goal.loop-event-preserved
loop-event-preserved g c =
    let B = g.row.B in
    let M = g.row.M in
    let did = c.in_ok-add_step.ensures.stepped in
    let t = at_opening c.args.opening.now in
    record {
      opening = c.add_step.ensures.opening ∙ c.loop-event.invariant.opening;
      from = subst (λ (steps : List Step). AreStepsFrom B M t (take (c.loop-event.event-index + 1) c.args.events.now) steps c.add_step.new.machine.history)
          (sym did.new_are) (next-steps B M t c.args.events.now c.loop-event.event-index _ c.loop-event.steps.items c.loop-event.machine.history did.outcome
          c.add_step.new.machine.history did.first c.loop-event-test.true c.loop-event.invariant.from did.happens did.did);
    }
