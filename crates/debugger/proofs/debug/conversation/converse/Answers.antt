use Rattle.engine_support.proofs.{is_handed, hands_failure, hands_read_failure, hands_unwritten, keeps_written, reads_alone, stopped}
use Rattle.std.proofs.Common.{[], sym, ◌∙◌}
use Rattle.debugger.specs.{DebuggerState, PrintsFront}
use Rattle.debugger.proofs.FirstLines.{leaves_here, leaves_itself, leaves_on}
use Rattle.debugger.proofs.TranscriptLaws.{Printed, talked_enough, talked_nothing, talked_on, talked_so_far, talked_some}
use Rattle.debugger.proofs.debug.conversation.converse.Goals as goal

pub loop-init : goal.loop-init
loop-init g c = record {
  talked = rw c.new-points.ensures.items
      (talked_nothing g.row.B g.row.M (g.C.Read.remaining c.args.commands.now) (g.W.Write.contents c.args.writer.now)
      c.args.debugger);
  leaves = leaves_itself (g.C.Read.remaining c.args.commands.now);
}

pub returns-then-does_quit-clause-printed : goal.returns-then-does_quit-clause-printed
returns-then-does_quit-clause-printed g c =
    talked_enough c.loop.invariant.talked (g.C.Read.remaining c.next_asked.new.commands) c.in_ok-asked.asked
    c.in_ok-asked.ensures.asks (sym c.does_quit.ensures ∙ c.if-does_quit.true)

pub loop-preserved : goal.loop-preserved
loop-preserved g c =
    let did = c.in_ok-debugger.ensures.answered in
    let goes = sym c.does_quit.ensures ∙ c.if-does_quit.false in
    record {
      talked = talked_on c.loop.invariant.talked (g.C.Read.remaining c.next_asked.new.commands) c.in_ok-asked.asked
          c.in_ok-asked.ensures.asks goes
          (g.W.Write.contents c.reply.new.writer) c.in_ok-debugger.debugger c.reply.new.points.items did.0 did.1 did.2;
      leaves = leaves_on (g.C.Read.remaining c.args.commands.now) (g.C.Read.remaining c.loop.commands) (g.C.Read.remaining c.next_asked.new.commands)
          c.in_ok-asked.asked c.loop.invariant.leaves c.in_ok-asked.ensures.takes goes;
    }

pub returns-then-does_quit-clause-rest : goal.returns-then-does_quit-clause-rest
returns-then-does_quit-clause-rest g c =
    leaves_here (g.C.Read.remaining c.args.commands.now) (g.C.Read.remaining c.loop.commands) (g.C.Read.remaining c.next_asked.new.commands)
    c.in_ok-asked.asked c.loop.invariant.leaves c.in_ok-asked.ensures.takes (sym c.does_quit.ensures ∙ c.if-does_quit.true)

pub returns-in_err-asked-clause-left : goal.returns-in_err-asked-clause-left
returns-in_err-asked-clause-left g c = stopped c.from_residual.result _ (talked_so_far c.loop.invariant.talked)

pub returns-in_err-asked-clause-err : goal.returns-in_err-asked-clause-err
returns-in_err-asked-clause-err g c =
    hands_read_failure c.from_residual.result c.in_err-asked.field-0.0 (is_handed c.from_residual.result _ c.from_residual.ensures.1) c.in_err-asked.ensures.err

pub returns-in_err-asked-clause-unwritten : goal.returns-in_err-asked-clause-unwritten
returns-in_err-asked-clause-unwritten g c =
    reads_alone c.from_residual.result c.in_err-asked.field-0.0 (is_handed c.from_residual.result _ c.from_residual.ensures.1) c.in_err-asked.ensures.err _

pub returns-in_err-debugger-clause-err : goal.returns-in_err-debugger-clause-err
returns-in_err-debugger-clause-err g c =
    hands_failure c.from_residual-in_err-debugger.result c.in_err-debugger.field-0.0
    (is_handed c.from_residual-in_err-debugger.result _ c.from_residual-in_err-debugger.ensures.1)
    c.in_err-debugger.ensures.err

pub returns-in_err-debugger-clause-left : goal.returns-in_err-debugger-clause-left
returns-in_err-debugger-clause-left g c =
    keeps_written DebuggerState c.from_residual-in_err-debugger.result c.in_err-debugger.field-0.0
    (is_handed c.from_residual-in_err-debugger.result _ c.from_residual-in_err-debugger.ensures.1)
    c.loop.writer c.reply.new.writer
    (λ w. Printed (g.W.Write.contents c.args.writer.now) (g.W.Write.contents w)
    (PrintsFront g.row.B g.row.M (g.C.Read.remaining c.args.commands.now) c.args.debugger []))
    c.in_err-debugger.ensures.left (talked_so_far c.loop.invariant.talked)

pub returns-in_err-debugger-clause-unwritten : goal.returns-in_err-debugger-clause-unwritten
returns-in_err-debugger-clause-unwritten g c =
    hands_unwritten DebuggerState c.from_residual-in_err-debugger.result c.in_err-debugger.field-0.0
    (is_handed c.from_residual-in_err-debugger.result _ c.from_residual-in_err-debugger.ensures.1)
    _ _
    (λ did. talked_some c.loop.invariant.talked (g.C.Read.remaining c.next_asked.new.commands) c.in_ok-asked.asked c.in_ok-asked.ensures.asks
    (sym c.does_quit.ensures ∙ c.if-does_quit.false) did.0 did.1 did.2 did.3)
    c.in_err-debugger.ensures.unwritten

pub returns-clause-left : goal.returns-clause-left
returns-clause-left g c = talked_so_far c.loop.invariant.talked
