use Rattle.std.proofs.Common.{◌≡◌, ◌-◌, [], ◌∷◌, take}
use Rattle.surveys.specs.inner.Trees.{words_below}
use Rattle.surveys.proofs.trees.unfold.Given as goal

-- what is written has the tree's words below it, by the levels that are left
abbrev pub invariant-loop : goal.invariant-loop
invariant-loop l =
    words_below (take l.tree.nodes l.nodes) (l.tree.levels - l.counter) l.words.items ≡ words_below (take l.tree.nodes l.nodes) l.tree.levels (l.tree.top ∷ [])
