use Rattle.surveys.specs.inner.Trees.{Grew}
use Rattle.surveys.proofs.trees.fold.Given as goal

abbrev pub invariant-loop-four : goal.invariant-loop-four
invariant-loop-four l = Grew l.fn.nodes l.nodes
