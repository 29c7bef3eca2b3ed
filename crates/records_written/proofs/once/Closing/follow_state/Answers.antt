use Rattle.std.proofs.Common.{ℕ, ◌≡◌, ◌≤◌, true, List, [], get_or, sym, subst, ap, ◌∙◌}
use Rattle.std.specs.Prelude.{nat_le}
use Rattle.std.specs.List.{list_all}
use Rattle.std.proofs.lemmas.Bool.{ltb-true}
use Rattle.std.proofs.lemmas.Result.{on_ok_weaker}
use Rattle.records_written.specs.{PartyLeaf, closed_by}
use Rattle.records_written.proofs.Again.{leads-more}
use Rattle.records_written.proofs.MarkLaws.{any-default}
use Rattle.records_written.proofs.once.Closing.follow_state.Goals as goal

pub returns-in-Some : goal.returns-in-Some
returns-in-Some c = on_ok_weaker c.follow.result
    (λ was f are under.
    (let found = c.in-Some.ensures.lookup in
    let listed : c.in-Some.state.now ≡ get_or c.args.graph.now c.args.n [] =
    found.1 ∙ any-default c.args.graph.now c.args.n _ [] (ltb-true _ _ (sym found.0)) in
    let leaves : c.deref-in-Some.result.now ≡ get_or c.args.graph.now c.args.n [] = c.deref-in-Some.ensures.value ∙ c.state.view_is ∙ listed in
    let own : c.closed_at-own.result ≡ get_or c.args.self.now.closed.items c.args.n 0 =
    c.closed_at-own.ensures ∙ ap (λ (xs : List ℕ). get_or xs c.args.n 0) c.deref.ensures.value in
    let below : c.closed_at-own.result ≤ f c.args.n = subst (λ m. m ≤ f c.args.n) (sym own) (under c.args.n) in
    was f (leads-more c.deref-in-Some.result.now f c.args.byte c.closed_at-own.result (f c.args.n) below
    (subst (λ (ls : List PartyLeaf). list_all (λ s. list_all (λ to. nat_le (closed_by s.all s.effect c.args.byte (f c.args.n)) (f to)) s.targets) ls ≡ true)
    (sym leaves) (are c.args.n))) under))
    c.follow.ensures
