use Rattle.std.proofs.Common.{sym, ◌∙◌, refl}
use Rattle.checking.specs.inner.Closes.{judged, left_out}
use Rattle.checking.proofs.Differences.{ok_then}
use Rattle.checking.proofs.check.close.Goals as goal

pub returns-then-is_left_out-clause-closed : goal.returns-then-is_left_out-clause-closed
returns-then-is_left_out-clause-closed g c = left_out (sym c.is_left_out.ensures ∙ c.if-is_left_out.true) refl refl

pub returns-clause-closed : goal.returns-clause-closed
returns-clause-closed g c = ok_then c.judge_text.result _ _ (judged (sym c.is_left_out.ensures ∙ c.if-is_left_out.false)) c.judge_text.ensures.written
