use Rattle.engine_support.proofs.Endings.{is_handed}
use Rattle.checking.proofs.Answering.{ends_checked, ends_refused, left_checked, nothing_left, unwritten_checked, unwritten_refused}
use Rattle.checking.proofs.check.check_engine.Goals as goal

pub returns-in_err-test-clause-ends : goal.returns-in_err-test-clause-ends
returns-in_err-test-clause-ends g c =
    ends_refused g.row.B g.row.M (g.R.Read.remaining c.args.records.now) (g.F.Read.remaining c.args.file.now) g.W.Write.contents c.from_residual.result _
    (is_handed c.from_residual.result _ c.from_residual.ensures.1) c.in_err-test.ensures.test c.args.writer.now

pub returns-in_err-test-clause-left : goal.returns-in_err-test-clause-left
returns-in_err-test-clause-left g c = nothing_left c.from_residual.result (g.W.Write.contents c.args.writer.now) _

pub returns-in_err-test-clause-unwritten : goal.returns-in_err-test-clause-unwritten
returns-in_err-test-clause-unwritten g c =
    unwritten_refused g.row.B g.row.M (g.R.Read.remaining c.args.records.now) (g.F.Read.remaining c.args.file.now) g.W.Write.contents c.from_residual.result _
    (is_handed c.from_residual.result _ c.from_residual.ensures.1) c.in_err-test.ensures.test _

pub returns-clause-ends : goal.returns-clause-ends
returns-clause-ends g c =
    ends_checked g.row.B g.row.M (g.R.Read.remaining c.args.records.now) (g.F.Read.remaining c.args.file.now) g.W.Write.contents c.in_ok-test.test
    c.in_ok-test.ensures.test c.check_all.result c.args.writer.now c.check_all.new.writer c.check_all.ensures.err c.check_all.ensures.checked

pub returns-clause-left : goal.returns-clause-left
returns-clause-left g c =
    left_checked g.row.B g.row.M (g.R.Read.remaining c.args.records.now) (g.F.Read.remaining c.args.file.now) g.W.Write.contents c.in_ok-test.test
    c.in_ok-test.ensures.test c.check_all.result _ _ c.check_all.ensures.left

pub returns-clause-unwritten : goal.returns-clause-unwritten
returns-clause-unwritten g c =
    unwritten_checked g.row.B g.row.M (g.R.Read.remaining c.args.records.now) (g.F.Read.remaining c.args.file.now) g.W.Write.contents c.in_ok-test.test
    c.in_ok-test.ensures.test c.check_all.result c.check_all.ensures.unwritten
