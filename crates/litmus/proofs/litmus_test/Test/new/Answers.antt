use Rattle.litmus.proofs.TestLaws.{steps_there, left_sides-steps}
use Rattle.litmus.proofs.litmus_test.Test.new.Goals as goal

pub first_places-requires : goal.first_places-requires
first_places-requires c = steps_there _ c.steps.result.now c.requires c.steps.ensures

pub invariant_of-result : goal.invariant_of-result
invariant_of-result c = (c.requires, left_sides-steps c.args.condition c.steps.result.now c.in_ok-lefts.lefts.items c.steps.ensures c.in_ok-lefts.ensures)
