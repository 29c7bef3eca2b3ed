use Rattle.engine_support.proofs.Endings.{is_handed}
use Rattle.debugger.specs.DebuggerStates.{DebuggerState}
use Rattle.debugger.proofs.TranscriptLaws.{left_begun, left_nothing, not_begun, not_refused, not_unwritten, transcribed, unwritten_begun}
use Rattle.debugger.proofs.debug.debug_engine.Goals as goal

pub returns-in_err-debugger-clause-ends : goal.returns-in_err-debugger-clause-ends
returns-in_err-debugger-clause-ends g c =
    not_begun g.row.B g.row.M (g.F.Read.remaining c.args.file.now) (g.S.Read.remaining c.args.schedule.now)
    (g.C.Read.remaining c.args.commands.now) g.W.Write.contents (λ (debugger : DebuggerState). debugger)
    c.from_residual.result c.in_err-debugger.field-0.0 c.args.writer.now
    (is_handed c.from_residual.result _ c.from_residual.ensures.1) c.in_err-debugger.ensures.debugger

pub returns-clause-ends : goal.returns-clause-ends
returns-clause-ends g c = transcribed g.row.B g.row.M (g.F.Read.remaining c.args.file.now)
    (g.S.Read.remaining c.args.schedule.now) (g.C.Read.remaining c.args.commands.now) g.W.Write.contents
    c.converse.result c.in_ok-debugger.debugger c.args.writer.now c.converse.new.writer
    c.in_ok-debugger.ensures.debugger c.converse.ensures.printed c.converse.ensures.err

pub returns-clause-unasked : goal.returns-clause-unasked
returns-clause-unasked g c = not_refused c.converse.result _ c.converse.ensures.err

pub returns-in_err-debugger-clause-left : goal.returns-in_err-debugger-clause-left
returns-in_err-debugger-clause-left g c =
    left_nothing g.row.B g.row.M (g.F.Read.remaining c.args.file.now) (g.S.Read.remaining c.args.schedule.now)
    (g.C.Read.remaining c.args.commands.now) g.W.Write.contents c.from_residual.result c.args.writer.now

pub returns-clause-left : goal.returns-clause-left
returns-clause-left g c =
    left_begun g.row.B g.row.M (g.F.Read.remaining c.args.file.now) (g.S.Read.remaining c.args.schedule.now)
    (g.C.Read.remaining c.args.commands.now) g.W.Write.contents c.converse.result c.in_ok-debugger.debugger
    c.args.writer.now c.converse.new.writer c.in_ok-debugger.ensures.debugger c.converse.ensures.left

pub returns-in_err-debugger-clause-unwritten : goal.returns-in_err-debugger-clause-unwritten
returns-in_err-debugger-clause-unwritten g c =
    not_unwritten g.row.B g.row.M (g.F.Read.remaining c.args.file.now) (g.S.Read.remaining c.args.schedule.now)
    (g.C.Read.remaining c.args.commands.now) g.W.Write.contents (λ (debugger : DebuggerState). debugger)
    c.from_residual.result c.in_err-debugger.field-0.0 _
    (is_handed c.from_residual.result _ c.from_residual.ensures.1) c.in_err-debugger.ensures.debugger

pub returns-clause-unwritten : goal.returns-clause-unwritten
returns-clause-unwritten g c = unwritten_begun g.row.B g.row.M (g.F.Read.remaining c.args.file.now)
    (g.S.Read.remaining c.args.schedule.now) (g.C.Read.remaining c.args.commands.now) g.W.Write.contents
    c.converse.result c.in_ok-debugger.debugger c.in_ok-debugger.ensures.debugger c.converse.ensures.unwritten
