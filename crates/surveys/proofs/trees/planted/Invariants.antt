use Rattle.surveys.specs.inner.Trees.{Grew}
use Rattle.surveys.proofs.trees.planted.Given as goal

abbrev pub invariant-loop-levels : goal.invariant-loop-levels
invariant-loop-levels l = Grew l.fn.nodes l.nodes
