use Rattle.std.proofs.Common.{◌==◌, ◌||◌, not, arith}
use Rattle.std.proofs.lemmas.List.Folds.{list_all_more}
use Rattle.records_written.specs.PartyLeaves.{has_mark}
use Rattle.records_written.proofs.searching.Search.follow_targets.Goals as goal

pub loop-to-preserved : goal.loop-to-preserved
loop-to-preserved c = λ m d b. grind (
  arith,
  c.in_ok-narrow.ensures m d b,
  c.loop-to.invariant m d b,
  list_all_more (λ to. not (to == m) || has_mark c.args.left.now d b) c.args.targets.now c.loop-to.to-index 0 c.loop-to-test.true,
)
