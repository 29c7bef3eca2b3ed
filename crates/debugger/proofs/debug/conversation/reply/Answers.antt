use Rattle.std.proofs.Common.{◌≡◌, ℕ, List, ◌++◌, ap, ◌∙◌}
use Rattle.std.specs.String.{string_bytes}
use Rattle.debugger.proofs.TranscriptLaws.{replied}
use Rattle.debugger.proofs.debug.conversation.reply.Goals as goal

pub returns-clause-answered : goal.returns-clause-answered
returns-clause-answered g c =
    let did = c.in_ok-debugger.ensures in
    let whole : string_bytes c.answer_asked.new.out ≡ did.0 = did.1 ∙ ap (λ (xs : List ℕ). xs ++ did.0) c.new-out.ensures.bytes in
    (replied g.row.B g.row.M c.args.asked c.args.debugger c.in_ok-debugger.debugger c.args.points.now.items
    c.answer_asked.new.points.items (c.answer_asked.new.out, tt)
    c.end_with.result c.and.result g.W.Write.contents c.args.writer.now c.end_with.new.writer did.0 c.and.ensures c.end_with.ensures whole did.2).0
