use Rattle.litmus.specs.{firsts, step_places}
use Rattle.litmus.proofs.SeenLaws.{none_seen_yet, next_seen}
use Rattle.litmus.proofs.lefts.first_places.Goals as goal

pub loop-step-init : goal.loop-step-init
loop-step-init c = none_seen_yet 3072 c.in_ok-seen.seen.items c.new-places.result.items c.args.steps.now c.in_ok-seen.ensures c.new-places.ensures.items

pub loop-step-preserved : goal.loop-step-preserved
loop-step-preserved c = next_seen c.loop-step.places.items (firsts (step_places c.args.steps.now))
    c.loop-step.seen.items c.add_step.new.seen.items c.add_step.new.places.items c.loop-step.step-index c.args.steps.now
    _ c.loop-step-test.true c.requires c.loop-step.invariant.0 c.loop-step.invariant.1 c.in_ok-add_step.ensures.places
    c.in_ok-add_step.ensures.seen
