use Rattle.std.proofs.Common.{arith, ◌≤◌}
use Rattle.std.proofs.lemmas.Bool.Decides.{nat_tests}
use Rattle.std.proofs.lemmas.List.Folds.{list_any_more}
use Rattle.records_written.specs.PartyLeaves.{is_mark}
use Rattle.records_written.proofs.MarkLaws.{no_mark}
use Rattle.records_written.proofs.marking.end_of.Goals as goal

pub loop-mark-preserved : goal.loop-mark-preserved
loop-mark-preserved c = λ d b from.
    (let before : c.loop-mark.end ≤ d = omega (arith, from, c.max-end.ensures) in
    grind (
      arith,
      nat_tests,
      c.loop-mark.invariant d b before,
      c.in_ok-sum.ensures.value,
      c.max-end.ensures,
      list_any_more (λ m. is_mark m d b) c.args.marks.now c.loop-mark.mark-index no_mark c.loop-mark-test.true,
    ))
