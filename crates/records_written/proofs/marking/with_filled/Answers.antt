use Rattle.std.proofs.Common.{arith}
use Rattle.std.proofs.lemmas.Grind.{common_steps}
use Rattle.std.proofs.lemmas.List.Folds.{list_any_more}
use Rattle.records_written.specs.PartyLeaves.{is_mark}
use Rattle.records_written.proofs.MarkLaws.{no_mark}
use Rattle.records_written.proofs.marking.with_filled.Goals as goal
use Rattle.records_written.proofs.marking.with_filled.Goals.{in-Some, in-None+in_ok-push-in-None}

pub loop-mark-preserved : goal.loop-mark-preserved
loop-mark-preserved c = elim c.match-with_neighbour.branch [
  | in-Some w ↦ λ d b. grind (
    arith,
    w.filled-is,
    w.left-is,
    w.in-Some.ensures.one d b,
    c.loop-mark.invariant d b,
    list_any_more (λ m. is_mark m d b) c.args.marks.now c.loop-mark.mark-index no_mark c.loop-mark-test.true,
  )
  | in-None+in_ok-push-in-None w ↦ λ d b. grind (
    arith,
    common_steps,
    w.filled-is,
    w.left-is,
    w.in_ok-push-in-None.ensures.items,
    c.loop-mark.invariant d b,
    list_any_more (λ m. is_mark m d b) c.args.marks.now c.loop-mark.mark-index no_mark c.loop-mark-test.true,
  )
]
