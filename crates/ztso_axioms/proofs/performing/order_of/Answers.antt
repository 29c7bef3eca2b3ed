use Rattle.std.proofs.Common.{◌≡◌, rules, sym, subst}
use Rattle.ztso_axioms.specs.Axioms.{Ztso}
use Rattle.ztso_axioms.specs.Performed.{order}
use Rattle.ztso_axioms.proofs.Values.{legal-ztso}
use Rattle.ztso_axioms.proofs.performing.order_of.Goals as goal

pub returns-clause-allowed : goal.returns-clause-allowed
returns-clause-allowed c = λ B legal.
    let is : c.extend_from_slice.new.self.items ≡ order c.args.trace.now = search rules in
    subst (Ztso c.args.trace.now) (sym is) (legal-ztso B c.args.trace.now legal)
