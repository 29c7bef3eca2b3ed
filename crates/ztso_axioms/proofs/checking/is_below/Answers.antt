use Rattle.std.proofs.Common.{refl, arith}
use Rattle.ztso_axioms.proofs.Values.{below_all}
use Rattle.ztso_axioms.proofs.checking.is_below.Goals as goal

pub returns-in_default : goal.returns-in_default
returns-in_default c = (λ _. below_all c.args.width c.args.value (omega arith) (omega arith), λ _. refl)
