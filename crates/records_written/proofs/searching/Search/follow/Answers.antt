use Rattle.std.proofs.Common.{◌≡◌, ◌&&◌, List, Option, Some, [], get_or, sym, ap, ◌∙◌}
use Rattle.std.proofs.lemmas.Bool.{ltb-true}
use Rattle.std.proofs.lemmas.Result.{on_ok_weaker}
use Rattle.records_written.specs.{Mark, PartyLeaf, marks_byte, marks_of, are_left}
use Rattle.records_written.proofs.MarkLaws.{any-default}
use Rattle.records_written.proofs.searching.Search.follow.Goals as goal

pub returns : goal.returns
returns c = on_ok_weaker c.follow_leaves.result
    (λ was m d b.
    (let old = marks_of c.args.self.now.marks.items m d b in
    let found = c.in-Some.ensures.lookup in
    let listed : c.in-Some.state.now ≡ get_or c.args.graph.now c.args.n [] =
    found.1 ∙ any-default c.args.graph.now c.args.n _ [] (ltb-true _ _ (sym found.0)) in
    let leaves : c.deref-in-Some.result.now ≡ get_or c.args.graph.now c.args.n [] = c.deref-in-Some.ensures.value ∙ c.state.view_is ∙ listed in
    let own : c.in_ok-own.own ≡ get_or c.args.self.now.marks.items c.args.n (Some []) =
    c.in_ok-own.ensures ∙ ap (λ (all : List (Option (List Mark))). get_or all c.args.n (Some [])) c.deref.ensures.value in
    was m d b ∙ ap (λ (ls : List PartyLeaf). old && are_left ls (marks_byte c.in_ok-own.own) m d b) leaves
    ∙ ap (λ (x : Option (List Mark)). old && are_left (get_or c.args.graph.now c.args.n []) (marks_byte x) m d b) own))
    c.follow_leaves.ensures
