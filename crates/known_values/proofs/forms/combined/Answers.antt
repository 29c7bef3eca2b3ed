use Rattle.std.proofs.Common.{arith, get_or}
use Rattle.std.proofs.lemmas.Grind.{common_steps}
use Rattle.known_values.proofs.Ends.{combined_ended, first_and_rest}
use Rattle.known_values.proofs.Totals.{combined_on, plus_none}
use Rattle.known_values.proofs.forms.combined.Goals as goal
use Rattle.known_values.proofs.forms.combined.Goals.{in_default, in_default-2}

pub loop-factors-preserved : goal.loop-factors-preserved
loop-factors-preserved c = combined_on c.loop-factors.total c.in_ok-times.field-0 c.in_ok-total.total
    (get_or c.loop-factors.factors.now 0 0) _ c.form-item.result _ _ c.loop-factors.factors.now c.loop-factors.forms.now
    (first_and_rest c.loop-factors.factors.now 0 (grind (arith, common_steps)))
    (cc (first_and_rest c.loop-factors.forms.now c.form-item.result (grind (arith, common_steps)), c.form-item.is))
    c.in_ok-times.ensures c.in_ok-total.ensures c.loop-factors.invariant

pub returns : goal.returns
returns c = elim c.if-factors-lt1.branch [
  | in_default w ↦ grind (arith, common_steps, combined_ended, plus_none)
  | in_default-2 w ↦ grind (arith, common_steps, combined_ended, plus_none)
]
