use Rattle.engine_support.proofs.{is_handed, end_fails, end_stopped, hands_no_memory, wrote}
use Rattle.checking.specs.inner.{judged_by}
use Rattle.checking.proofs.Answering.{written_by}
use Rattle.checking.proofs.Differences.{ok_some}
use Rattle.checking.proofs.check.judge_text.Goals as goal

pub returns-in_err-judgement-clause-err : goal.returns-in_err-judgement-clause-err
returns-in_err-judgement-clause-err g c =
    hands_no_memory c.from_residual.result _ (is_handed c.from_residual.result _ c.from_residual.ensures.1) c.in_err-judgement.ensures.err

pub returns-clause-written : goal.returns-clause-written
returns-clause-written g c =
    let values = c.judge.new.values.items in
    let tallies = rw c.deref.ensures.value at c.in_ok-add.ensures.tallies in
    ok_some c.end_with.result _ _
    (λ v written. written_by g.row.B g.row.M c.args.test.now c.args.text.now c.args.tally.now c.add.new.self _ _
    (judged_by c.in_ok-judgement.judgement values) _
    c.in_ok-judgement.ensures.judged tallies (c.in_ok-line.ensures values) written.1)
    (wrote (c.in_ok-line.line, tt) c.end_with.result g.W.Write.contents c.args.writer.now c.end_with.new.writer c.end_with.ensures)

pub returns-clause-err : goal.returns-clause-err
returns-clause-err g c = end_fails (c.in_ok-line.line, tt) c.end_with.result g.W.Write.contents c.args.writer.now c.end_with.new.writer c.end_with.ensures

pub returns-clause-left : goal.returns-clause-left
returns-clause-left g c = end_stopped (c.in_ok-line.line, tt) c.end_with.result g.W.Write.contents c.args.writer.now c.end_with.new.writer c.end_with.ensures _
