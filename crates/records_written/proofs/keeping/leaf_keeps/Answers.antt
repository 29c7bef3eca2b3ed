use Rattle.std.proofs.Common.{ℕ, ◌≡◌, ◌||◌, not, Bool, true, List, Option, sym, ap, ◌∙◌}
use Rattle.std.specs.List.{list_all}
use Rattle.std.proofs.lemmas.Result.{IfOk-weaker}
use Rattle.queue_certificates.specs.declared.effect.Effect.{Effect}
use Rattle.records_written.specs.{PartyLeaf, marked_after, marks_byte, marks_of}
use Rattle.records_written.proofs.keeping.leaf_keeps.Goals as goal

pub returns : goal.returns
returns c = IfOk-weaker c.targets_keep.result
    (λ (k : Bool). k ≡ true → (d b : ℕ) → list_all (λ to. not (marks_of c.args.all.now to d b) || marks_byte c.in_ok-left.left d b) c.deref.result.now ≡ true)
    (λ (k : Bool). k ≡ true → (d b : ℕ) → list_all (λ to. not (marks_of c.args.all.now to d b)
    || marked_after c.args.leaf.now.effect (marks_byte c.args.own.now) d b) c.args.leaf.now.targets ≡ true)
    (λ k was so d b.
    (let effect : c.leaf.inside.effect ≡ c.args.leaf.now.effect = ap (λ (s : PartyLeaf). s.effect) c.leaf.view_is in
    let targets : c.deref.result.now ≡ c.args.leaf.now.targets = c.deref.ensures.value ∙ ap (λ (s : PartyLeaf). s.targets) c.leaf.view_is in
    let left : marks_byte c.in_ok-left.left d b ≡ marked_after c.args.leaf.now.effect (marks_byte c.args.own.now) d b =
    c.in_ok-left.ensures d b ∙ ap (λ (e : Option Effect). marked_after e (marks_byte c.args.own.now) d b) effect in
    sym (ap (λ (ts : List ℕ). list_all (λ to. not (marks_of c.args.all.now to d b) || marks_byte c.in_ok-left.left d b) ts) targets
    ∙ ap (λ (x : Bool). list_all (λ to. not (marks_of c.args.all.now to d b) || x) c.args.leaf.now.targets) left)
    ∙ was so d b))
    c.targets_keep.ensures
