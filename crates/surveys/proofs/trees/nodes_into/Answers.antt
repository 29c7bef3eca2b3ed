use Rattle.std.proofs.Common.{ℕ, ◌<◌, ◌≤◌, List, ◌++◌, length, take, ap, ◌∙◌, arith}
use Rattle.std.specs.List.{flat_map}
use Rattle.std.proofs.lemmas.List.{take_all}
use Rattle.surveys.specs.inner.Trees.{node_at}
use Rattle.surveys.proofs.TreeLaws.{level_more}
use Rattle.surveys.proofs.trees.nodes_into.Goals as goal

pub loop-number-preserved : goal.loop-number-preserved
loop-number-preserved c =
    let within : c.loop-number.number-index < length c.args.numbers.now = omega (arith, c.loop-number-test.true) in
    level_more (node_at (take c.args.within c.args.nodes.now)) c.args.numbers.now c.loop-number.below.items _ c.loop-number.number-index within
    c.loop-number.invariant (c.in_ok-extend_from_slice.ensures.items ∙ ap (λ (ns : List ℕ). c.loop-number.below.items ++ ns) c.node_at.ensures)

pub returns : goal.returns
returns c =
    let done : length c.args.numbers.now ≤ c.loop-number.number-index = omega (arith, c.loop-number-test.false) in
    c.loop-number.invariant ∙ ap (flat_map (node_at (take c.args.within c.args.nodes.now))) (take_all c.loop-number.number-index c.args.numbers.now done)
