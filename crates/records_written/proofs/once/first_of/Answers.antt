use Rattle.std.proofs.Common.{ℕ, List, get_or, sym, subst, ◌∙◌}
use Rattle.records_written.specs.{AreClosed, IsUnder}
use Rattle.records_written.proofs.Again.{first-again, none-again}
use Rattle.records_written.proofs.once.first_of.Goals as goal

pub returns : goal.returns
returns c = first-again c.args.graph.now c.args.byte c.deref-2.result.now
    (subst (λ (xs : List ℕ). AreClosed c.args.graph.now c.args.byte (λ m. get_or xs m 0)) (c.deref.ensures.value ∙ sym c.deref-2.ensures.value)
    (c.all_closed.ensures (cc)))
    (subst (λ (xs : List ℕ). (f : ℕ → ℕ) → AreClosed c.args.graph.now c.args.byte f → IsUnder xs f) (sym c.deref-2.ensures.value) c.in_ok-closed.ensures)
    c.in-Some.state c.in-Some.ensures.0 c.in-Some.ensures.1

pub returns-in-None : goal.returns-in-None
returns-in-None c = none-again c.args.graph.now c.args.byte c.deref-2.result.now
    (subst (λ (xs : List ℕ). AreClosed c.args.graph.now c.args.byte (λ m. get_or xs m 0)) (c.deref.ensures.value ∙ sym c.deref-2.ensures.value)
    (c.all_closed.ensures (cc)))
    (subst (λ (xs : List ℕ). (f : ℕ → ℕ) → AreClosed c.args.graph.now c.args.byte f → IsUnder xs f) (sym c.deref-2.ensures.value) c.in_ok-closed.ensures)
    c.in-None.ensures
