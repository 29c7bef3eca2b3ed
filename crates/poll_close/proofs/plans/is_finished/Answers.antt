use Rattle.std.proofs.Common.{◌∙◌, sym, ap}
use Rattle.poll_close.specs.Plans.{ends_in_word}
use Rattle.poll_close.proofs.Planning.{open_where_word}
use Rattle.poll_close.proofs.plans.is_finished.Goals as goal

pub returns-then-ends_in_word : goal.returns-then-ends_in_word
returns-then-ends_in_word g c =
    sym (open_where_word g.K.RingKind.ring g.K.RingKind.meaning g.row.B g.row.M c.args.machine.now.history
    c.laws.ensures.cleans c.requires.stands
    (sym (ap ends_in_word c.reports-reports.ensures) ∙ sym c.ends_in_word.ensures ∙ c.if-ends_in_word.true))
