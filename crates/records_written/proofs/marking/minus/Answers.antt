use Rattle.std.proofs.Common.{arith}
use Rattle.std.proofs.lemmas.List.Folds.{list_any_more}
use Rattle.records_written.specs.PartyLeaves.{is_mark}
use Rattle.records_written.proofs.MarkLaws.{no_mark}
use Rattle.records_written.proofs.marking.minus.Goals as goal

pub loop-cut-preserved : goal.loop-cut-preserved
loop-cut-preserved c = λ d b. grind (
  arith,
  c.in_ok-left-2.ensures d b,
  c.deref.ensures.value,
  c.loop-cut.invariant d b,
  list_any_more (λ m. is_mark m d b) c.args.others.now c.loop-cut.cut-index no_mark c.loop-cut-test.true,
)
