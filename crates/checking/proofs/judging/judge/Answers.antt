use Rattle.checking.specs.Judgements.IsTextJudged.{none, record_is}
use Rattle.checking.proofs.judging.judge.Goals as goal

pub returns-in_ok-judge_steps-in-Ok-clause-judged : goal.returns-in_ok-judge_steps-in-Ok-clause-judged
returns-in_ok-judge_steps-in-Ok-clause-judged g c =
    record_is c.in-Ok.steps.items _ c.in-Ok.ensures.found (rw c.deref.ensures.value at c.in_ok-judge_steps-in-Ok.ensures.judged)

pub returns-in-Err-Refused-clause-judged : goal.returns-in-Err-Refused-clause-judged
returns-in-Err-Refused-clause-judged g c =
    none c.in-Err-Refused.refusal (rw c.in-Err-Refused.field-0-is at c.in-Err-Refused.ensures.exact)
