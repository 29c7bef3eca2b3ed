use Rattle.std.proofs.Common.{arith}
use Rattle.std.proofs.lemmas.List.Folds.{list_any_more}
use Rattle.records_written.specs.PartyLeaves.{is_mark}
use Rattle.records_written.proofs.MarkLaws.{no_mark}
use Rattle.records_written.proofs.marking.without.Goals as goal

pub loop-mark-preserved : goal.loop-mark-preserved
loop-mark-preserved c = λ d b. grind (
  arith,
  c.in_ok-push_rest.ensures d b,
  c.loop-mark.invariant d b,
  list_any_more (λ m. is_mark m d b) c.args.marks.now c.loop-mark.mark-index no_mark c.loop-mark-test.true,
)
