use Rattle.std.proofs.Common.{◌≡◌, take}
use Rattle.std.specs.List.{flat_map}
use Rattle.surveys.specs.inner.Trees.{node_at}
use Rattle.surveys.proofs.trees.nodes_into.Given as goal

abbrev pub invariant-loop-number : goal.invariant-loop-number
invariant-loop-number l = l.below.items ≡ flat_map (node_at (take l.within l.nodes)) (take l.number-index l.numbers)
