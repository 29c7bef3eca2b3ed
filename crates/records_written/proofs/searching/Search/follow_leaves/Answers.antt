use Rattle.std.proofs.Common.{arith}
use Rattle.std.proofs.lemmas.List.Folds.{list_all_more}
use Rattle.records_written.specs.{marked_after, is_left, marks_byte}
use Rattle.records_written.proofs.searching.Search.follow_leaves.Goals as goal

pub loop-leaf-preserved : goal.loop-leaf-preserved
loop-leaf-preserved c = λ m d b. grind (
  arith,
  c.in_ok-follow_leaf.ensures m d b,
  c.loop-leaf.invariant m d b,
  c.leaf-item.is,
  list_all_more (λ s. is_left s.targets (marked_after s.effect (marks_byte c.args.own.now) d b) m) c.args.leaves.now c.loop-leaf.leaf-index
      c.leaf-item.result c.loop-leaf-test.true,
)
