-- Cases as they are held, and how high a tree of them is.
use Rattle.std.specs.Prelude.{ℕ, ◌+◌}
use Rattle.queue_certificates.specs.Cases.{Cases, leaf, split}
use Rattle.queue_checker.specs.declared.certificate.CaseNode.{CaseNode}
use Rattle.queue_checker.specs.declared.certificate.CaseNode.TheVariants.{Leaf, Split}

abbrev pub tree_of : CaseNode → Cases
tree_of (Leaf handed arrows) = leaf handed arrows.items
tree_of (Split j v low high) = split j v low.value high.value

abbrev pub height : Cases → ℕ
height (leaf d arrows) = 0
height (split j v low high) = height low + height high + 1
