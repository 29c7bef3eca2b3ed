use Rattle.debugger.proofs.FirstLines.{LeavesAs}
use Rattle.debugger.proofs.TranscriptLaws.{Talked}
use Rattle.debugger.proofs.debug.conversation.converse.Given as goal

abbrev pub invariant-loop : goal.invariant-loop
invariant-loop g l = record {
  talked : Talked g.row.B g.row.M (g.C.Read.remaining l.fn.commands) (g.C.Read.remaining l.commands) (g.W.Write.contents l.fn.writer)
      (g.W.Write.contents l.writer) l.fn.debugger l.debugger l.points.items;
  leaves : LeavesAs (g.C.Read.remaining l.fn.commands) (g.C.Read.remaining l.commands);
}
