use Rattle.std.proofs.Common.{arith, refl}
use Rattle.ztso_axioms.proofs.Checked.{values_from_indices}
use Rattle.ztso_axioms.proofs.checking.has_load_values.Goals as goal

pub returns : goal.returns
returns c = (
  λ so. values_from_indices c.args.trace.now.opening c.args.trace.now.entries c.args.order.now c.requires
      (λ i lt. c.loop-index.invariant i (omega arith)),
  λ values. refl,
)
