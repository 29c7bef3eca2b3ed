use Rattle.std.proofs.Common.{arith, lit<, refl}
use Rattle.step_machine.specs.History.{at_opening}
use Rattle.engine_support.proofs.{is_handed, hands_failure, hands_stop, hands_unwritten, stopped, unwritten, write_fails, write_stops}
use Rattle.checking.specs.{Tally, first_name, table_text}
use Rattle.checking.proofs.Answering.{all_checked, all_written, none_written}
use Rattle.checking.proofs.Differences.{ok_more}
use Rattle.engine_support.specs.inner.{lines_in}
use Rattle.checking.proofs.TallyLaws.{tabled}
use Rattle.checking.proofs.check.check_all.Goals as goal

pub judge_all-requires : goal.judge_all-requires
judge_all-requires g c = (
  lit< tt,
  (
    (at_opening c.in_ok-opening.opening, c.in_ok-machine.ensures, c.in_ok-opening.ensures.copy),
    omega (arith, c.in_ok-opening.ensures.fits.names, c.requires.words),
  ),
)

pub returns-in_err-opening-clause-left : goal.returns-in_err-opening-clause-left
returns-in_err-opening-clause-left g c =
    stopped c.from_residual.result _
    (none_written g.row.B g.row.M c.args.test.now (g.R.Read.remaining c.args.records.now) (g.W.Write.contents c.args.writer.now))

pub returns-in_err-machine-clause-left : goal.returns-in_err-machine-clause-left
returns-in_err-machine-clause-left g c =
    stopped c.from_residual-in_err-machine.result _
    (none_written g.row.B g.row.M c.args.test.now (g.R.Read.remaining c.args.records.now) (g.W.Write.contents c.args.writer.now))

pub returns-in_err-tally-clause-err : goal.returns-in_err-tally-clause-err
returns-in_err-tally-clause-err g c =
    hands_failure c.from_residual-in_err-tally.result _
    (is_handed c.from_residual-in_err-tally.result _ c.from_residual-in_err-tally.ensures.1) c.in_err-tally.ensures.err

pub returns-in_err-tally-clause-left : goal.returns-in_err-tally-clause-left
returns-in_err-tally-clause-left g c =
    hands_stop Tally c.from_residual-in_err-tally.result _
    (is_handed c.from_residual-in_err-tally.result _ c.from_residual-in_err-tally.ensures.1) _ _ (λ some. some) c.in_err-tally.ensures.left

pub returns-in_err-tally-clause-unwritten : goal.returns-in_err-tally-clause-unwritten
returns-in_err-tally-clause-unwritten g c =
    hands_unwritten Tally c.from_residual-in_err-tally.result _
    (is_handed c.from_residual-in_err-tally.result _ c.from_residual-in_err-tally.ensures.1) _ _ (λ some. some) c.in_err-tally.ensures.unwritten

pub returns-clause-checked : goal.returns-clause-checked
returns-clause-checked g c =
    let test = c.args.test.now in
    let tally = c.in_ok-tally.tally in
    ok_more c.end_with_table.result _ _
    (λ good written. all_checked g.row.B g.row.M test tally (g.W.Write.contents c.args.writer.now) (g.W.Write.contents c.judge_all.new.writer)
    (g.R.Read.remaining c.args.records.now) c.in_ok-tally.ensures.judged (g.W.Write.contents c.end_with_table.new.writer) (table_text test tally) good
    (λ answers is. tabled test answers tally (lines_in first_name test tally.outcomes) (table_text test tally) is c.has_lines.ensures refl) written.0 written.1)
    c.end_with_table.ensures.written

pub returns-clause-err : goal.returns-clause-err
returns-clause-err g c = write_fails c.end_with_table.result c.end_with_table.ensures.err

pub returns-clause-left : goal.returns-clause-left
returns-clause-left g c = write_stops c.end_with_table.result _ c.end_with_table.ensures.err

pub returns-clause-unwritten : goal.returns-clause-unwritten
returns-clause-unwritten g c =
    let some = all_written g.row.B g.row.M c.args.test.now c.in_ok-tally.tally _ _ (g.R.Read.remaining c.args.records.now) c.in_ok-tally.ensures.judged in
    unwritten c.end_with_table.result _ (some.0, some.2)
