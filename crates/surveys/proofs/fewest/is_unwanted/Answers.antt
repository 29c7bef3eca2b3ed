use Rattle.std.proofs.Common.{◌∙◌, refl, ap, arith}
use Rattle.std.specs.Prelude.{slice_index}
use Rattle.step_machine.specs.declared.events.Event.TheVariants.{Act, Land}
use Rattle.surveys.specs.inner.Parts.{AreMade, tables_of}
use Rattle.surveys.proofs.PartSteps.{moves_by}
use Rattle.surveys.proofs.fewest.is_unwanted.Goals as goal

pub returns-in-Some-2-clause-unwanted : goal.returns-in-Some-2-clause-unwanted
returns-in-Some-2-clause-unwanted g c = λ yes wanted.
    let tables = tables_of g.row.B g.row.M c.args.tables.now in
    let made : AreMade g.row.B tables c.loop-hart.hart c.number_at.result c.number_at-memory.result c.in-Some.steps.act c.in-Some.steps.landing =
    rw c.in-Some.is at c.in_ok-steps.ensures.made in
    moves_by g.row.B tables c.args.row.now c.loop-hart.hart c.number_at.result c.number_at-memory.result (Land c.loop-hart.hart) c.in-Some.steps.landing refl
    (omega (arith, c.loop-hart-test.true, c.harts-hart-end.ensures)) c.number_at.ensures
    (c.number_at-memory.ensures ∙ ap (slice_index c.args.row.now) c.harts.ensures) made.lands c.if-is_none-2.ensures wanted.finished

pub returns-in-Some-2-2-clause-unwanted : goal.returns-in-Some-2-2-clause-unwanted
returns-in-Some-2-2-clause-unwanted g c = λ yes wanted.
    let tables = tables_of g.row.B g.row.M c.args.tables.now in
    let made : AreMade g.row.B tables c.loop-hart.hart c.number_at.result c.number_at-memory.result c.in-Some.steps.act c.in-Some.steps.landing =
    rw c.in-Some.is at c.in_ok-steps.ensures.made in
    moves_by g.row.B tables c.args.row.now c.loop-hart.hart c.number_at.result c.number_at-memory.result (Act c.loop-hart.hart) c.in-Some.steps.act refl
    (omega (arith, c.loop-hart-test.true, c.harts-hart-end.ensures)) c.number_at.ensures
    (c.number_at-memory.ensures ∙ ap (slice_index c.args.row.now) c.harts.ensures) made.acts c.if-is_none.ensures wanted.finished
