use Rattle.std.proofs.Common.{◌∙◌, sym}
use Rattle.poll_close.proofs.Planning.{last_is, last_none}
use Rattle.poll_close.proofs.plans.ends_in_word.Goals as goal

pub returns-in-Some : goal.returns-in-Some
returns-in-Some c = c.is_word.ensures ∙ last_is c.args.reports.now c.in-Some.last (sym c.last.ensures.value ∙ sym c.copied.ensures ∙ c.in-Some.is)

pub returns-in-None : goal.returns-in-None
returns-in-None c = last_none c.args.reports.now (sym c.last.ensures.value ∙ sym c.copied.ensures ∙ c.in-None.is)
