use Rattle.std.proofs.Common.{◌&&◌, ◌||◌, sym, ap, ◌∙◌, take}
use Rattle.std.specs.List.{list_any}
use Rattle.std.proofs.lemmas.List.Folds.{list_any_more}
use Rattle.record_bytes.specs.Ranges.{has_byte}
use Rattle.records_written.specs.{PartyLeaf, ends_at}
use Rattle.records_written.proofs.Again.{answer-same, both-more}
use Rattle.records_written.proofs.once.with_leaves.Goals as goal

pub loop-leaf-preserved : goal.loop-leaf-preserved
loop-leaf-preserved c = λ p is. answer-same c.args.graph.now
    (λ b. (p b || (has_byte c.args.mask.now b && list_any (λ s. ends_at s.effect b) (take c.loop-leaf.leaf-index c.args.leaves.now)))
    || (has_byte c.args.mask.now b && ends_at c.leaf.inside.effect b)) _
    (λ b. both-more (p b) (has_byte c.args.mask.now b) (list_any (λ s. ends_at s.effect b) (take c.loop-leaf.leaf-index c.args.leaves.now))
    (ends_at c.leaf.inside.effect b)
    ∙ ap (λ t. p b || (has_byte c.args.mask.now b && t))
    (ap (λ (s : PartyLeaf). list_any (λ s. ends_at s.effect b) (take c.loop-leaf.leaf-index c.args.leaves.now) || ends_at s.effect b)
    (c.leaf.view_is ∙ c.leaf-item.is)
    ∙ sym (list_any_more (λ s. ends_at s.effect b) c.args.leaves.now c.loop-leaf.leaf-index c.leaf-item.result c.loop-leaf-test.true)))
    c.in_ok-found.found
    (c.in_ok-found.ensures (λ b. p b || (has_byte c.args.mask.now b && list_any (λ s. ends_at s.effect b) (take c.loop-leaf.leaf-index c.args.leaves.now)))
    (c.loop-leaf.invariant p is))
