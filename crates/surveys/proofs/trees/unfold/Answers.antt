use Rattle.std.proofs.Common.{◌≡◌, ◌+◌, ◌-◌, ℕ, suc, Vec, take, ap, ◌∙◌, arith}
use Rattle.std.specs.Global.{Global}
use Rattle.std.specs.List.{flat_map}
use Rattle.surveys.specs.inner.Trees.{node_at}
use Rattle.surveys.proofs.TreeLaws.{level_less}
use Rattle.surveys.proofs.trees.unfold.Goals as goal

pub loop-preserved : goal.loop-preserved
loop-preserved c =
    let more : c.args.tree.levels - c.loop.counter ≡ suc (c.args.tree.levels - (c.loop.counter + 1)) = omega (arith, c.loop-test.true) in
    level_less (take c.args.tree.nodes c.args.nodes.now) _ _ c.loop.words.items _ more
    (ap (λ (v : Vec ℕ Global). v.items) c.swap.ensures.x_after ∙ c.in_ok-nodes_into.ensures
    ∙ ap (flat_map (node_at (take c.args.tree.nodes c.args.nodes.now))) c.deref.ensures.value)
    ∙ c.loop.invariant
