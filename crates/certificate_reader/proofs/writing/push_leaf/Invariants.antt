use Rattle.std.proofs.Common.{◌≡◌, ◌++◌, [], ◌∷◌, take}
use Rattle.std.specs.String.{string_bytes}
use Rattle.certificate_reader.specs.CaseTexts.{arrow_lines}
use Rattle.certificate_reader.specs.declared.cases.Node.TheVariants as node
use Rattle.certificate_reader.specs.Writing.{lines_text, tree_lines}
use Rattle.certificate_reader.proofs.writing.push_leaf.Given as goal

abbrev pub invariant-loop-arrow : goal.invariant-loop-arrow
invariant-loop-arrow l = string_bytes l.out
    ≡ string_bytes l.fn.out ++ lines_text [] (tree_lines (node.Leaf l.handed ∷ arrow_lines (take l.arrow-index l.arrows)))
