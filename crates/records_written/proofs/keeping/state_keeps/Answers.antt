use Rattle.std.proofs.Common.{ℕ, ◌≡◌, ◌||◌, not, Bool, true, List, Option, sym, ap, ◌∙◌}
use Rattle.std.specs.List.{list_all}
use Rattle.std.proofs.lemmas.Result.{IfOk-weaker}
use Rattle.records_written.specs.{Mark, PartyLeaf, marked_after, keeps, marks_byte, marks_of}
use Rattle.records_written.proofs.keeping.state_keeps.Goals as goal

pub returns : goal.returns
returns c = IfOk-weaker c.leaves_keep.result
    (λ (k : Bool). k ≡ true → (d b : ℕ) → list_all (λ s. list_all (λ to. not (marks_of c.args.all.now to d b)
    || marked_after s.effect (marks_byte c.in_ok-own.own) d b) s.targets) c.deref.result.now ≡ true)
    (λ (k : Bool). k ≡ true → (d b : ℕ) → list_all (keeps (marks_of c.args.all.now) c.args.n d b) c.args.state.now ≡ true)
    (λ k was so d b.
    (let leaves : c.deref.result.now ≡ c.args.state.now = c.deref.ensures.value ∙ c.state.view_is in
    sym (ap (λ (ls : List PartyLeaf). list_all (λ s. list_all (λ to. not (marks_of c.args.all.now to d b)
    || marked_after s.effect (marks_byte c.in_ok-own.own) d b) s.targets) ls) leaves
    ∙ ap (λ (x : Option (List Mark)). list_all (λ s. list_all (λ to. not (marks_of c.args.all.now to d b)
    || marked_after s.effect (marks_byte x) d b) s.targets) c.args.state.now) c.in_ok-own.ensures)
    ∙ was so d b))
    c.leaves_keep.ensures
