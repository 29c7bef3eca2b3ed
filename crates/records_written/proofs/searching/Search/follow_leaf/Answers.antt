use Rattle.std.proofs.Common.{◌≡◌, true, List, Option, sym, ap, ◌∙◌}
use Rattle.std.proofs.lemmas.Result.{on_ok_weaker}
use Rattle.queue_certificates.specs.declared.effect.Effect.{Effect}
use Rattle.records_written.specs.{Mark, PartyLeaf, marked_after, has_mark, marks_byte, marks_of}
use Rattle.records_written.proofs.MarkLaws.{left-none, same-left}
use Rattle.records_written.proofs.searching.Search.follow_leaf.Goals as goal

pub returns-in-None : goal.returns-in-None
returns-in-None c = λ m d b.
    (let effect : c.leaf.inside.effect ≡ c.args.leaf.now.effect = ap (λ (s : PartyLeaf). s.effect) c.leaf.view_is in
    let so : marked_after c.args.leaf.now.effect (marks_byte c.args.own.now) d b ≡ true =
    sym (ap (λ (e : Option Effect). marked_after e (marks_byte c.args.own.now) d b) effect) ∙ sym (c.in_ok-left_after.ensures d b)
    ∙ ap (λ (x : Option (List Mark)). marks_byte x d b) c.in-None.is in
    left-none (marks_of c.args.self.now.marks.items m d b) c.args.leaf.now.targets (marked_after c.args.leaf.now.effect (marks_byte c.args.own.now) d b) m so)

pub returns-in-Some : goal.returns-in-Some
returns-in-Some c = on_ok_weaker c.follow_targets.result
    (λ was m d b.
    (let effect : c.leaf.inside.effect ≡ c.args.leaf.now.effect = ap (λ (s : PartyLeaf). s.effect) c.leaf.view_is in
    let targets : c.deref-in-Some.result.now ≡ c.args.leaf.now.targets = c.deref-in-Some.ensures.value ∙ ap (λ (s : PartyLeaf). s.targets) c.leaf.view_is in
    let left : c.deref.result.now ≡ c.in-Some.left = c.deref.ensures.value ∙ c.left.view_is in
    let so : has_mark c.deref.result.now d b ≡ marked_after c.args.leaf.now.effect (marks_byte c.args.own.now) d b =
    ap (λ (ms : List Mark). has_mark ms d b) left ∙ sym (ap (λ (x : Option (List Mark)). marks_byte x d b) c.in-Some.is)
    ∙ c.in_ok-left_after.ensures d b ∙ ap (λ (e : Option Effect). marked_after e (marks_byte c.args.own.now) d b) effect in
    was m d b ∙ same-left (marks_of c.args.self.now.marks.items m d b) c.deref-in-Some.result.now c.args.leaf.now.targets
    (has_mark c.deref.result.now d b) (marked_after c.args.leaf.now.effect (marks_byte c.args.own.now) d b) m targets so))
    c.follow_targets.ensures
