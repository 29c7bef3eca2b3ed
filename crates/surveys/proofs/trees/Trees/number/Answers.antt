use Rattle.surveys.proofs.TreeLaws.{all_named, is_kept, is_numbered, lists_kept}
use Rattle.surveys.proofs.trees.Trees.number.Goals as goal

pub returns-in_err-tree-clause-err : goal.returns-in_err-tree-clause-err
returns-in_err-tree-clause-err c = lists_kept c.from_residual.result _ _ _ _ c.planted.ensures c.self.inside.named c.self.view_is

pub invariant_of-self-inside-2 : goal.invariant_of-self-inside-2
invariant_of-self-inside-2 c = (
  all_named c.number_tree.result _ _ _ _ _ c.args.words.now c.planted.ensures c.self.inside.named c.self.view_is c.number_tree.ensures.numbered
      c.number_tree.ensures.err,
  tt,
)

pub returns-clause-numbered : goal.returns-clause-numbered
returns-clause-numbered c =
    is_numbered c.number_tree.result _ _ _ _ _ c.args.words.now c.planted.ensures c.self.inside.named c.self.view_is c.number_tree.ensures.numbered
    c.number_tree.ensures.err

pub returns-clause-err : goal.returns-clause-err
returns-clause-err c =
    is_kept c.number_tree.result _ _ _ _ _ c.args.words.now c.planted.ensures c.self.inside.named c.self.view_is c.number_tree.ensures.numbered
    c.number_tree.ensures.err
