use Rattle.std.proofs.Common.{rules, ◌∙◌, ℕ, List, Some, sym, ap}
use Rattle.std.specs.Prelude.{IsTrue}
use Rattle.step_machine.specs.Positions.{Position}
use Rattle.surveys.specs.Wanted.{IsWantedAt}
use Rattle.surveys.specs.inner.Parts.{positions_by, tables_of}
use Rattle.surveys.proofs.RowLaws.{each_number_more, of_number}
use Rattle.surveys.proofs.fewest.none_wanted.Goals as goal

pub loop-number-preserved : goal.loop-number-preserved
loop-number-preserved g c =
    let tables = tables_of g.row.B g.row.M c.args.tables.now in
    let Unwanted : Position → Type 0 = λ position. IsWantedAt c.args.test.now position → ⊥ in
    let yes : IsTrue c.in_ok-is_unwanted.field-0 = search rules in
    record {
      right = c.in_ok-is_unwanted.ensures.right;
      none = each_number_more Unwanted (positions_by tables c.args.visited.now) c.args.from c.loop-number.number c.loop-number.invariant.none
          (of_number Unwanted tables c.args.visited.now c.loop-number.number c.deref.result.now
          (c.in_ok-row_into.ensures ∙ ap (λ (r : List ℕ). Some r) (sym c.deref.ensures.value)) (c.in_ok-is_unwanted.ensures.unwanted yes));
    }
