-- Cases of a state, as a text has them: each split before what its two sides have, the low one first, and after a leaf where it leads.
use Rattle.std.specs.Prelude.{List, [], ◌∷◌, ◌++◌, map}
use Rattle.queue_certificates.specs.Cases.{Arrow, Cases, leaf, split}
use Rattle.queue_checker.specs.Codes.{joined_by, first_tree}
use Rattle.certificate_reader.specs.declared.cases.Node.{Node}
use Rattle.certificate_reader.specs.declared.cases.Node.TheVariants.{Split, Leaf, To}

-- what lines stand for: trees, and before them arrows of a leaf whose line comes before these
pub record Grown : Type 0 where
  pub arrows : List Arrow
  pub trees : List Cases

abbrev pub with_node : Node → Grown → Grown
with_node (Split j v) g = record { arrows = []; trees = joined_by j v g.trees }
with_node (Leaf d) g = record { arrows = []; trees = leaf d g.arrows ∷ g.trees }
with_node (To arrow) g = record { arrows = arrow ∷ g.arrows; trees = g.trees }

-- lines, the last one first, before what is grown of those after them
unfoldable pub grown_onto : Grown → List Node → Grown
grown_onto g [] = g
grown_onto g (node ∷ nodes) = grown_onto (with_node node g) nodes

abbrev pub nothing_grown : Grown
nothing_grown = record { arrows = []; trees = [] }

-- the tree of a state's lines, the last one first
abbrev pub cases_of : List Node → Cases
cases_of nodes = first_tree (grown_onto nothing_grown nodes).trees

-- ---- the lines of a tree

abbrev pub arrow_lines : List Arrow → List Node
arrow_lines arrows = map To arrows

abbrev pub case_lines : Cases → List Node
case_lines (leaf d arrows) = Leaf d ∷ arrow_lines arrows
case_lines (split j v low high) = Split j v ∷ (case_lines low ++ case_lines high)
