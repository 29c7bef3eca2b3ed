use Rattle.std.proofs.Common.{sym, ◌∙◌, refl, rules}
use Rattle.checking.specs.inner.TakesLine.{begins, belongs}
use Rattle.checking.proofs.TextLaws.{held_more}
use Rattle.checking.proofs.check.take_line.Goals as goal

pub returns-then-not-begins_record-clause-taken : goal.returns-then-not-begins_record-clause-taken
returns-then-not-begins_record-clause-taken g c =
    belongs (rw c.deref.ensures.value at (sym c.begins_record.ensures ∙ c.if-not-begins_record.true))
    (λ whole is. rw c.in_ok-hold.ensures.exact (rw c.deref-then-not-begins_record.ensures.value (held_more _ whole _ is))) refl refl

pub returns-clause-taken : goal.returns-clause-taken
returns-clause-taken g c =
    begins (rw c.deref.ensures.value at (sym c.begins_record.ensures ∙ c.if-not-begins_record.false))
    (rw c.deref-2.ensures.value at c.in_ok-close.ensures.closed) (search rules)
