use Rattle.std.proofs.Common.{rules, ◌∙◌, ℕ, List, Some, Result, Ok, Err, sym, ap, subst}
use Rattle.std.specs.Prelude.{IfOk, IsTrue}
use Rattle.step_machine.specs.Positions.{next_position}
use Rattle.surveys.specs.Wanted.{IsWantedAt}
use Rattle.surveys.specs.inner.Levels.{IsExpanded}
use Rattle.surveys.specs.inner.Parts.{position_by_row, positions_by, tables_of}
use Rattle.surveys.proofs.RowLaws.{of_number}
use Rattle.surveys.proofs.fewest.goes_on.Goals as goal

ok_more : {T E : Type 0} (P Q : T → Type 0) (result : Result T E) → ((x : T) → P x → Q x) → IfOk result P → IfOk result Q
ok_more P Q (Ok x) more so = more x so
ok_more P Q (Err e) more so = so

pub returns-clause-goes : goal.returns-clause-goes
returns-clause-goes g c =
    let tables = tables_of g.row.B g.row.M c.args.tables.now in
    let row = c.deref-2.result.now in
    let yes : IsTrue c.in_ok-is_unwanted.field-0 = search rules in
    let unwanted = subst (λ (r : List ℕ). IsWantedAt c.args.test.now (position_by_row tables r) → ⊥) (c.deref.ensures.value ∙ sym c.deref-2.ensures.value)
    (c.in_ok-is_unwanted.ensures.unwanted yes) in
    ok_more _ _ c.all_lead.result (λ led leads is.
    of_number (IsExpanded (next_position g.row.B) (IsWantedAt c.args.test.now) c.args.count (positions_by tables c.args.visited.now)) tables c.args.visited.now
    c.args.number row (c.in_ok-row_into.ensures ∙ ap (λ (r : List ℕ). Some r) (sym c.deref-2.ensures.value))
    (record { leads = leads is; unwanted = unwanted })) c.all_lead.ensures.leads
