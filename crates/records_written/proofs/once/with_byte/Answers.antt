use Rattle.std.proofs.Common.{◌==◌, ◌||◌, sym, ◌∙◌}
use Rattle.records_written.proofs.Again.{answer-same, asked-more, none-more}
use Rattle.records_written.proofs.once.with_byte.Goals as goal

pub returns-in_ok-other : goal.returns-in_ok-other
returns-in_ok-other c = λ p is. answer-same c.args.graph.now (λ b. p b || (b == c.args.byte)) _
    (asked-more c.args.mask.now c.args.byte (sym c.has_byte.ensures ∙ c.if-has_byte.true) p) _
    (c.earlier.ensures c.args.graph.now p (λ b. b == c.args.byte) is c.in_ok-other.ensures)

pub returns-else-has_byte : goal.returns-else-has_byte
returns-else-has_byte c = λ p is. answer-same c.args.graph.now p _
    (none-more c.args.mask.now c.args.byte (sym c.has_byte.ensures ∙ c.if-has_byte.false) p) _ is
