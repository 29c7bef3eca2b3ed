use Rattle.std.proofs.Common.{rules, ◌∙◌, ap, arith}
use Rattle.std.specs.Prelude.{IsTrue, slice_index}
use Rattle.surveys.specs.inner.Parts.{AreMade, tables_of}
use Rattle.surveys.proofs.PartSteps.{made_at}
use Rattle.surveys.proofs.RowLaws.{IsKnownStep, each_event_more, rows_lead}
use Rattle.surveys.proofs.fewest.all_lead.Goals as goal

pub loop-hart-preserved : goal.loop-hart-preserved
loop-hart-preserved g c =
    let tables = tables_of g.row.B g.row.M c.args.tables.now in
    let row = c.args.row.now in
    let found : AreMade g.row.B tables c.loop-hart.hart c.number_at.result c.number_at-memory.result c.in-Some.steps.act c.in-Some.steps.landing =
    rw c.in-Some.is at c.in_ok-steps.ensures.made in
    let made = made_at found c.number_at.ensures (c.number_at-memory.ensures ∙ ap (slice_index row) c.harts.ensures) in
    let act_there : IsTrue c.in_ok-leads.field-0 = search rules in
    let landing_there : IsTrue c.in_ok-leads-2.field-0 = search rules in
    record {
      right = c.in_ok-steps.ensures.right;
      known = each_event_more (IsKnownStep g.row.B tables c.args.count c.args.visited.now row) c.loop-hart.hart c.loop-hart.invariant.known
          (record { step = c.in-Some.steps.act; makes = made.acts; there = c.in_ok-leads.ensures act_there })
          (record { step = c.in-Some.steps.landing; makes = made.lands; there = c.in_ok-leads-2.ensures landing_there });
    }

pub returns-clause-leads : goal.returns-clause-leads
returns-clause-leads g c = λ yes.
    rows_lead g.row.B (tables_of g.row.B g.row.M c.args.tables.now) c.args.count c.args.visited.now c.args.row.now c.requires.here c.requires.row
    (λ ev within. c.loop-hart.invariant.known ev (omega (arith, within, c.loop-hart-test.false, c.harts-hart-end.ensures)))
